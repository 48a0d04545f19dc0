-- How far a number at the front of bytes comes. Only the crate's private clauses cite it.
use Rattle.std.specs.Prelude.{◌≡◌, ℕ, List, [], ◌∷◌, ◌++◌, Bool, false, Some, None, IsAscii}
use Rattle.adx_json.specs.Machine.{Frame, in_number, stop_of, next_numeral, may_end}
use Rattle.adx_json.specs.declared.number.Numeral.{Numeral}
use Rattle.adx_json.specs.declared.number.Numeral.TheVariants.{Start}

-- whether a number that has come so far may end with these bytes
abbrev pub accepts : Numeral → List ℕ → Bool
accepts n [] = may_end n
accepts n (b ∷ bs) = elim (next_numeral n b) [ Some m ↦ accepts m bs | None ↦ false ]

-- the bytes don't go on with the number
abbrev pub EndsNumber : Numeral → List ℕ → Type 0
EndsNumber n [] = Unit {0}
EndsNumber n (b ∷ rest) = next_numeral n b ≡ None

-- the number has come as far as n by some bytes, which are ASCII, and doesn't go on with the rest
pub record Scanned (bytes : List ℕ) (n : Numeral) (rest : List ℕ) : Type 0 where
  pub number : List ℕ
  pub whole : bytes ≡ number ++ rest
  pub accepted : (more : List ℕ) → accepts Start (number ++ more) ≡ accepts n more
  pub ascii : IsAscii number
  pub goes : (fs : List Frame) → stop_of 64 (in_number Start) fs bytes ≡ stop_of 64 (in_number n) fs rest
  pub ends : EndsNumber n rest

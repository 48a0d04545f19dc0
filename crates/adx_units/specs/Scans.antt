-- The front of a text that is read byte after byte.
use Rattle.std.specs.Prelude.{◌≡◌, ◌⊎◌, ℕ, List, [], ◌∷◌, ◌++◌, Bool, true, false}
use Rattle.std.specs.List.{list_all}
use Rattle.adx_units.specs.Number.{is_digit, is_digits, is_point, is_exponent_mark, without_sign, has_minus}

-- no byte of the front passes here: the text ends, or its first byte doesn't pass
abbrev pub Stops : (ℕ → Bool) → List ℕ → Type 0
Stops passes [] = Unit {0}
Stops passes (b ∷ bs) = passes b ≡ false

-- a number's text after its whole digits: a fraction and what comes after it. The fraction has no digits where no
-- point comes first.
abbrev pub IsFraction : List ℕ → List ℕ → List ℕ → Type 0
IsFraction text digits behind =
    (list_all is_digit digits ≡ true) × Stops is_digit behind
    × (((digits ≡ []) × (text ≡ behind) × Stops is_point behind) ⊎ ((is_digits digits ≡ true) × (text ≡ 46 ∷ digits ++ behind)))

-- a point without a digit after it
abbrev pub HasNoFraction : List ℕ → Type 0
HasNoFraction text = (behind : List ℕ) × (text ≡ 46 ∷ behind) × Stops is_digit behind

-- a number's text after its fraction: nothing, or an exponent's mark with a sign and digits
abbrev pub IsExponent : List ℕ → List ℕ → Bool → Type 0
IsExponent text digits lowers =
    ((text ≡ []) × (digits ≡ []) × (lowers ≡ false))
    ⊎ ((mark : ℕ) × (behind : List ℕ) × (text ≡ mark ∷ behind) × (is_exponent_mark mark ≡ true)
    × (is_digits (without_sign behind) ≡ true) × (digits ≡ without_sign behind) × (lowers ≡ has_minus behind))

-- a byte that is no exponent's mark, or one without digits
abbrev pub HasNoExponent : List ℕ → Type 0
HasNoExponent text =
    (mark : ℕ) × (behind : List ℕ) × (text ≡ mark ∷ behind)
    × ((is_exponent_mark mark ≡ false) ⊎ ((is_exponent_mark mark ≡ true) × (is_digits (without_sign behind) ≡ false)))

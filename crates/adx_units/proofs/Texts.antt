-- Bytes whose run of ASCII is as long as they are.
use Rattle.std.proofs.Common.{◌≡◌, ℕ, suc, ◌+◌, leb, Bool, true, false, not, cond, List, [], ◌∷◌, length, IsAscii, IsUtf8, arith}
use Rattle.std.proofs.lemmas.Bool.{leb-false}
use Rattle.std.proofs.lemmas.Str.{IsUtf8-from_ascii}
use Rattle.std.proofs.lemmas.Str.Ascii.{IsAscii-cons}
use Rattle.std.specs.List.{prefix_len}
use Rattle.adx_units.specs.Ascii.{is_in_ascii}

goes_on : (b : Bool) (n l : ℕ) → cond (not b) (1 + n) 0 ≡ suc l → (b ≡ false) × (n ≡ l)
goes_on true n l e = let no : ⊥ = omega arith in absurd no
goes_on false n l e = (λ i. false, omega arith)

all_low : (bs : List ℕ) → prefix_len is_in_ascii bs ≡ length bs → IsAscii bs
all_low [] e = λ i. omega arith
all_low (b ∷ bs) e = let on = goes_on (leb 128 b) _ (length bs) e in IsAscii-cons b bs (leb-false 128 b on.0) (all_low bs on.1)

pub whole_run : (bs : List ℕ) → prefix_len is_in_ascii bs ≡ length bs → IsUtf8 bs
whole_run bs e = IsUtf8-from_ascii bs (all_low bs e)

-- Texts of 1 to 128 bytes.
use Rattle.std.proofs.Common.{◌≡◌, ℕ, ◌<◌, ◌≤◌, List, length, Bool, true, false, ◌&&◌, nat_le, Some, refl, ap₂, arith}
use Rattle.std.proofs.lemmas.Bool.{leb-true, leb-false}
use Rattle.adx_units.specs.Ids.{IsSized}
use Rattle.adx_units.specs.declared.id.TheConstants.{LONGEST_ID}
use Rattle.rtb_request.specs.Amounts.{is_id_text}

le_true : (a b : ℕ) (t : Bool) → nat_le a b ≡ t → a ≤ b → t ≡ true
le_true a b true e h = refl
le_true a b false e h = absurd (let low : b < a = leb-false a b e in omega arith)

pub sized_id : (t : List ℕ) → IsSized t → is_id_text (Some t) ≡ true
sized_id t h = ap₂ (λ a b. a && b) (le_true 1 (length t) _ refl h.0) (le_true (length t) LONGEST_ID _ refl h.1)

not_both : (n : ℕ) (a b : Bool) → nat_le 1 n ≡ a → nat_le n LONGEST_ID ≡ b → ((1 ≤ n) × (n ≤ LONGEST_ID) → ⊥) → (a && b) ≡ false
not_both n true true e f h = absurd (h (leb-true 1 n e, leb-true n LONGEST_ID f))
not_both n true false e f h = refl
not_both n false b e f h = refl

pub unsized_id : (t : List ℕ) → ¬ (IsSized t) → is_id_text (Some t) ≡ false
unsized_id t h = not_both (length t) _ _ refl refl h

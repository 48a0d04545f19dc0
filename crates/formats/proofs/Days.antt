-- Texts of the form of a day.
use Rattle.std.proofs.Common.{◌≡◌, ◌<◌, ℕ, suc, Bool, true, false, List, [], ◌∷◌, map, length, get_or, codes, refl, sym, ap, ap₂, ◌∙◌, arith}
use Rattle.std.proofs.lemmas.Slice.Eq.{bytes_eq-Decides}
use Rattle.std.proofs.lemmas.List.{length-map, get_or-map}
use Rattle.formats.specs.Days.{zeroed, is_day}

same_by_index : (xs ys : List ℕ) → length xs ≡ length ys → ((k : ℕ) → k < length xs → get_or xs k 0 ≡ get_or ys k 0) → xs ≡ ys
same_by_index [] [] len h = refl
same_by_index [] (y ∷ ys) len h = absurd (omega arith)
same_by_index (x ∷ xs) [] len h = absurd (omega arith)
same_by_index (x ∷ xs) (y ∷ ys) len h = ap₂ (λ (a : ℕ) (as0 : List ℕ). a ∷ as0) (h 0 (omega arith)) (same_by_index xs ys (omega arith) (λ k below. h (suc k) (omega arith)))

pub is_shaped : (day : List ℕ) → length day ≡ 10 → ((k : ℕ) → k < 10 → zeroed (get_or day k 0) ≡ get_or (codes "0000-00-00") k 0) → is_day day ≡ true
is_shaped day len h =
    let mapped = length-map day zeroed in
    let same : map zeroed day ≡ codes "0000-00-00" = same_by_index (map zeroed day) (codes "0000-00-00") (omega (arith, mapped, len)) (λ k below. get_or-map zeroed day k 0 0 (omega (arith, mapped, below)) ∙ h k (omega (arith, mapped, len, below))) in
    (bytes_eq-Decides (map zeroed day) (codes "0000-00-00")).1 same

day_false : (day : List ℕ) (b : Bool) → is_day day ≡ b → (map zeroed day ≡ codes "0000-00-00" → ⊥) → is_day day ≡ false
day_false day true e h = absurd (h ((bytes_eq-Decides (map zeroed day) (codes "0000-00-00")).0 e))
day_false day false e h = e

pub not_shaped_at : (day : List ℕ) (k : ℕ) → k < length day → (zeroed (get_or day k 0) ≡ get_or (codes "0000-00-00") k 0 → ⊥) → is_day day ≡ false
not_shaped_at day k below h = day_false day (is_day day) refl (λ same. h (sym (get_or-map zeroed day k 0 0 below) ∙ ap (λ (t : List ℕ). get_or t k 0) same))

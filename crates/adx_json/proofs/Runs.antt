-- Bytes of one kind, and where they are cut.
use Rattle.std.proofs.Common.{◌≡◌, ℕ, List, [], ◌∷◌, ◌++◌, Bool, true, false, refl, sym, ap, ap₂, eqb, ◌∙◌}
use Rattle.std.proofs.lemmas.Bool.{false≢true, and_parts, eqb-false}
use Rattle.std.specs.List.{list_all}
use Rattle.adx_units.specs.Scans.{Stops}

-- the first bytes and the later bytes of equal bytes
pub head_of : (x y : ℕ) (a b : List ℕ) → x ∷ a ≡ y ∷ b → x ≡ y
head_of x y a b e = cc

pub tail_of : (x y : ℕ) (a b : List ℕ) → x ∷ a ≡ y ∷ b → a ≡ b
tail_of x y a b e = cc

-- bytes with different first bytes differ
pub apart : (x y : ℕ) (a b : List ℕ) → eqb x y ≡ false → x ∷ a ≡ y ∷ b → ⊥
apart x y a b d e = eqb-false x y d (head_of x y a b e)

-- bytes of one kind, up to one of another kind, are cut in one way
pub one_cut : (p : ℕ → Bool) (a b r s : List ℕ) → list_all p a ≡ true → list_all p b ≡ true → Stops p r → Stops p s → a ++ r ≡ b ++ s → (a ≡ b) × (r ≡ s)
one_cut p [] [] r s pa pb hr hs e = (refl, e)
one_cut p [] (y ∷ b) [] s pa pb hr hs e = cc
one_cut p [] (y ∷ b) (x ∷ r) s pa pb hr hs e =
    let same : x ≡ y = cc in
    absurd (false≢true (sym hr ∙ ap p same ∙ (and_parts _ _ pb).0))
one_cut p (x ∷ a) [] r [] pa pb hr hs e = cc
one_cut p (x ∷ a) [] r (y ∷ s) pa pb hr hs e =
    let same : y ≡ x = cc in
    absurd (false≢true (sym hs ∙ ap p same ∙ (and_parts _ _ pa).0))
one_cut p (x ∷ a) (y ∷ b) r s pa pb hr hs e =
    let heads : x ≡ y = cc in
    let tails : a ++ r ≡ b ++ s = cc in
    let rest = one_cut p a b r s (and_parts _ _ pa).1 (and_parts _ _ pb).1 hr hs tails in
    (ap₂ (λ (h : ℕ) (t : List ℕ). h ∷ t) heads rest.0, rest.1)

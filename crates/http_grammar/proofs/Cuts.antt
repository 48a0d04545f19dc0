-- A list is cut at the first stop in one way.
use Rattle.std.proofs.Common.{◌≡◌, ◌≢◌, ◌⊎◌, ℕ, List, [], ◌∷◌, ◌++◌, All, refl, sym, inl, inr}
use Rattle.std.proofs.lemmas.List.Elements.{All-head, All-tail}

-- nothing, or the stop first
abbrev pub Stopped : ℕ → List ℕ → Type 0
Stopped stop rest = (rest ≡ []) ⊎ ((more : List ℕ) × (rest ≡ stop ∷ more))

not_in : (stop x : ℕ) (rest more : List ℕ) → x ≢ stop → Stopped stop rest → rest ≡ x ∷ more → ⊥
not_in stop x rest more other (inl none) is = cc
not_in stop x rest more other (inr some) is = let e : x ≡ stop = cc (some.1) in other e

pub cut_unique : (stop : ℕ) (a b p q : List ℕ) → All (λ x. x ≢ stop) a → All (λ x. x ≢ stop) b → Stopped stop p → Stopped stop q → a ++ p ≡ b ++ q → (a ≡ b) × (p ≡ q)
cut_unique stop [] [] p q ones twos sp sq e = (refl, e)
cut_unique stop [] (y ∷ b) p q ones twos sp sq e = absurd (not_in stop y p (b ++ q) (All-head (λ x. x ≢ stop) y b twos) sp e)
cut_unique stop (x ∷ a) [] p q ones twos sp sq e = absurd (not_in stop x q (a ++ p) (All-head (λ x. x ≢ stop) x a ones) sq (sym e))
cut_unique stop (x ∷ a) (y ∷ b) p q ones twos sp sq e =
    let first : x ≡ y = cc in
    let tails : a ++ p ≡ b ++ q = cc in
    let rest = cut_unique stop a b p q (All-tail (λ x. x ≢ stop) x a ones) (All-tail (λ x. x ≢ stop) y b twos) sp sq tails in
    (cc (first, rest.0), rest.1)

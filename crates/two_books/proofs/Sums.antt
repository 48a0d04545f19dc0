-- The sum of weights is that of the weights at distinct places, where all others are nothing.
use Rattle.std.proofs.Common.{◌≡◌, ◌≢◌, ◌⊎◌, ℕ, zero, suc, ◌+◌, ◌≤◌, List, [], ◌∷◌, map, get_or, refl, sym, ap, ap₂, ◌∙◌, subst, arith, inl, inr, All}
use Rattle.std.specs.List.{sum_by}
use Rattle.std.proofs.lemmas.List.Elements.{All-cons, All-head, All-nil, All-tail}
use Rattle.std.proofs.lemmas.List.Sums.{sum_by-cons}
use Rattle.two_books.specs.Settling.{Distinct}

abbrev pub total : List ℕ → ℕ
total [] = 0
total (w ∷ ws) = w + total ws

pub total_of : {X : Type 0} (f : X → ℕ) (xs : List X) → sum_by f xs ≡ total (map f xs)
total_of f [] = refl
total_of f (x ∷ xs) = sum_by-cons f x xs ∙ ap (λ n. f x + n) (total_of f xs)

-- the weights without that one
abbrev pub cleared : ℕ → List ℕ → List ℕ
cleared n [] = []
cleared zero (w ∷ ws) = 0 ∷ ws
cleared (suc n) (w ∷ ws) = w ∷ cleared n ws

cleared_total : (n : ℕ) (ws : List ℕ) → total ws ≡ get_or ws n 0 + total (cleared n ws)
cleared_total n [] = omega arith
cleared_total zero (w ∷ ws) = omega arith
cleared_total (suc n) (w ∷ ws) = omega (arith, cleared_total n ws)

cleared_other : (n m : ℕ) (ws : List ℕ) → n ≢ m → get_or (cleared n ws) m 0 ≡ get_or ws m 0
cleared_other n m [] apart = refl
cleared_other zero zero (w ∷ ws) apart = absurd (apart refl)
cleared_other zero (suc m) (w ∷ ws) apart = refl
cleared_other (suc n) zero (w ∷ ws) apart = refl
cleared_other (suc n) (suc m) (w ∷ ws) apart = cleared_other n m ws (λ e. apart (ap suc e))

cleared_here : (n : ℕ) (ws : List ℕ) → get_or (cleared n ws) n 0 ≡ 0
cleared_here n [] = refl
cleared_here zero (w ∷ ws) = refl
cleared_here (suc n) (w ∷ ws) = cleared_here n ws

cleared_still : (n m : ℕ) (ws : List ℕ) → get_or ws m 0 ≡ 0 → get_or (cleared n ws) m 0 ≡ 0
cleared_still n m [] h = refl
cleared_still zero zero (w ∷ ws) h = refl
cleared_still zero (suc m) (w ∷ ws) h = h
cleared_still (suc n) zero (w ∷ ws) h = h
cleared_still (suc n) (suc m) (w ∷ ws) h = cleared_still n m ws h

abbrev all_cleared : List ℕ → List ℕ → List ℕ
all_cleared [] ws = ws
all_cleared (n ∷ ns) ws = all_cleared ns (cleared n ws)

-- the weights at these places
abbrev pub picked : List ℕ → List ℕ → List ℕ
picked ns ws = map (λ n. get_or ws n 0) ns

same_picked : (n : ℕ) (ns ws : List ℕ) → All (λ m. n ≢ m) ns → picked ns (cleared n ws) ≡ picked ns ws
same_picked n [] ws apart = refl
same_picked n (m ∷ ns) ws apart =
    ap₂ (λ x xs. x ∷ xs) (cleared_other n m ws (All-head (λ k. n ≢ k) m ns apart)) (same_picked n ns ws (All-tail (λ k. n ≢ k) m ns apart))

parted : (ns ws : List ℕ) → Distinct (λ n m. n ≢ m) ns → total ws ≡ total (picked ns ws) + total (all_cleared ns ws)
parted [] ws apart = omega arith
parted (n ∷ ns) ws apart =
    let here : total ws ≡ get_or ws n 0 + total (cleared n ws) = cleared_total n ws in
    let rest : total (cleared n ws) ≡ total (picked ns (cleared n ws)) + total (all_cleared ns (cleared n ws)) = parted ns (cleared n ws) apart.1 in
    let same : total (picked ns (cleared n ws)) ≡ total (picked ns ws) = ap total (same_picked n ns ws apart.0) in
    omega (arith, here, rest, same)

abbrev pub Member : ℕ → List ℕ → Type 0
Member m [] = ⊥
Member m (n ∷ ns) = (m ≡ n) ⊎ Member m ns

none_at : (ns ws : List ℕ) (m : ℕ) → Member m ns ⊎ (get_or ws m 0 ≡ 0) → get_or (all_cleared ns ws) m 0 ≡ 0
none_at [] ws m (inl among) = absurd among
none_at [] ws m (inr none) = none
none_at (n ∷ ns) ws m (inl (inl same)) =
    none_at ns (cleared n ws) m (inr (subst (λ k. get_or (cleared n ws) k 0 ≡ 0) (sym same) (cleared_here n ws)))
none_at (n ∷ ns) ws m (inl (inr among)) = none_at ns (cleared n ws) m (inl among)
none_at (n ∷ ns) ws m (inr none) = none_at ns (cleared n ws) m (inr (cleared_still n m ws none))

no_total : (ws : List ℕ) → ((m : ℕ) → get_or ws m 0 ≡ 0) → total ws ≡ 0
no_total [] h = refl
no_total (w ∷ ws) h =
    let first : w ≡ 0 = h 0 in
    let rest : total ws ≡ 0 = no_total ws (λ m. h (suc m)) in
    omega (arith, first, rest)

-- The weights at distinct places are some of all.
pub some_picked : (ns ws : List ℕ) → Distinct (λ n m. n ≢ m) ns → total (picked ns ws) ≤ total ws
some_picked ns ws apart = omega (arith, parted ns ws apart)

-- The weights at distinct places are all there is, where each other weight is nothing.
pub all_picked : (ns ws : List ℕ) → Distinct (λ n m. n ≢ m) ns → ((m : ℕ) → Member m ns ⊎ (get_or ws m 0 ≡ 0)) → total ws ≡ total (picked ns ws)
all_picked ns ws apart each =
    let both : total ws ≡ total (picked ns ws) + total (all_cleared ns ws) = parted ns ws apart in
    let none : total (all_cleared ns ws) ≡ 0 = no_total (all_cleared ns ws) (λ m. none_at ns ws m (each m)) in
    omega (arith, both, none)

-- two numbers are one or not
same_or_not : (m n : ℕ) → (m ≡ n) ⊎ (m ≢ n)
same_or_not zero zero = inl refl
same_or_not zero (suc n) = inr (λ e. absurd (omega (arith, e)))
same_or_not (suc m) zero = inr (λ e. absurd (omega (arith, e)))
same_or_not (suc m) (suc n) = by (same_or_not m n)
  where
    by : (m ≡ n) ⊎ (m ≢ n) → (suc m ≡ suc n) ⊎ (suc m ≢ suc n)
    by (inl e) = inl (ap suc e)
    by (inr apart) = inr (λ e. apart (omega (arith, e)))

-- a number is among others, or apart from each
among_or_apart : (m : ℕ) (ns : List ℕ) → Member m ns ⊎ All (λ n. m ≢ n) ns
among_or_apart m [] = inr (All-nil (λ n. m ≢ n))
among_or_apart m (n ∷ ns) = by (same_or_not m n) (among_or_apart m ns)
  where
    by : (m ≡ n) ⊎ (m ≢ n) → Member m ns ⊎ All (λ k. m ≢ k) ns → Member m (n ∷ ns) ⊎ All (λ k. m ≢ k) (n ∷ ns)
    by (inl e) rest = inl (inl e)
    by (inr apart) (inl among) = inl (inr among)
    by (inr apart) (inr all) = inr (All-cons (λ k. m ≢ k) n ns apart all)

-- Where distinct places have all the weight, each place of some weight is one of them.
pub none_left : (ns ws : List ℕ) → Distinct (λ n m. n ≢ m) ns → total (picked ns ws) ≡ total ws → (m : ℕ) → 1 ≤ get_or ws m 0 → Member m ns
none_left ns ws apart all m some = by (among_or_apart m ns)
  where
    by : Member m ns ⊎ All (λ n. m ≢ n) ns → Member m ns
    by (inl among) = among
    by (inr others) = absurd (omega (arith, some_picked (m ∷ ns) ws (others, apart), all, some))

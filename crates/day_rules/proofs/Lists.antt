-- Sums over lists, places in lists, and lists cut at an element.
use Rattle.std.proofs.Common.{◌≡◌, ◌⊎◌, ℕ, zero, suc, ◌+◌, ◌-◌, ◌<◌, ◌≤◌, List, [], ◌∷◌, ◌++◌, map, length, get_or, refl, sym, ap, ◌∙◌, subst, inl, inr, arith, Option, Some, None, length-append}
use Rattle.std.specs.List.{All, AllPairs, Any, sum_by, enumerate_from, flat_map, slice_get}
use Rattle.std.specs.Option.{option_map, option_or}
use Rattle.std.proofs.lemmas.List.Sums.{sum_by-cons, sum_by-append}
use Rattle.std.proofs.lemmas.List.{get_or_append_left}

pub sum_by-always : {X : Type 0} (f g : X → ℕ) (xs : List X) → ((x : X) → f x ≡ g x) → sum_by f xs ≡ sum_by g xs
sum_by-always f g [] h = refl
sum_by-always f g (x ∷ xs) h = omega (arith, sum_by-cons f x xs, sum_by-cons g x xs, h x, sum_by-always f g xs h)

pub sum_by-both : {X : Type 0} (f g : X → ℕ) (xs : List X) → sum_by (λ x. f x + g x) xs ≡ sum_by f xs + sum_by g xs
sum_by-both f g [] = refl
sum_by-both {X} f g (x ∷ xs) =
    let h = λ (y : X). f y + g y in
    omega (arith, sum_by-cons f x xs, sum_by-cons g x xs, sum_by-cons h x xs, sum_by-both f g xs)

pub sum_by-flat_map : {X Y : Type 0} (f : Y → ℕ) (h : X → List Y) (xs : List X) → sum_by f (flat_map h xs) ≡ sum_by (λ x. sum_by f (h x)) xs
sum_by-flat_map f h [] = refl
sum_by-flat_map {X} f h (x ∷ xs) =
    let g = λ (y : X). sum_by f (h y) in
    omega (arith, sum_by-append f (h x) (flat_map h xs), sum_by-cons g x xs, sum_by-flat_map f h xs)

pub enumerate-append : {X : Type 0} (n : ℕ) (xs ys : List X) → enumerate_from n (xs ++ ys) ≡ enumerate_from n xs ++ enumerate_from (n + length xs) ys
enumerate-append n [] ys = ap (λ k. enumerate_from k ys) (omega arith)
enumerate-append n (x ∷ xs) ys =
    ap (λ t. (n, x) ∷ t) (enumerate-append (n + 1) xs ys ∙ ap (λ k. enumerate_from (n + 1) xs ++ enumerate_from k ys) (omega arith))

-- a list that ends in e, cut at an element: that element is e, or comes before it
pub cut_of_push : {X : Type 0} (xs before after : List X) (e x : X) → xs ++ e ∷ [] ≡ before ++ x ∷ after → ((xs ≡ before) × (e ≡ x)) ⊎ ((rest : List X) × (xs ≡ before ++ x ∷ rest))
cut_of_push [] [] after e x h = inl (refl, cc)
cut_of_push [] (b ∷ bs) after e x h =
    let l : length (bs ++ x ∷ after) ≡ 0 = let t : [] ≡ bs ++ x ∷ after = cc in sym (ap length t) in
    absurd (omega (arith, length-append bs (x ∷ after)))
cut_of_push (y ∷ ys) [] after e x h = inr (ys, cc)
cut_of_push {X} (y ∷ ys) (b ∷ bs) after e x h =
    let t : ys ++ e ∷ [] ≡ bs ++ x ∷ after = cc in
    let u : y ≡ b = cc in
    elim (cut_of_push ys bs after e x t) [ inl w ↦ inl (let v : ys ≡ bs = w.0 in cc, w.1) | inr w ↦ inr (w.0, let v : ys ≡ bs ++ x ∷ w.0 = w.1 in cc) ]

-- what is at a place of two lists one after the other
pub get-append_left : {X : Type 0} (xs ys : List X) (k : ℕ) → k < length xs → slice_get (xs ++ ys) k ≡ slice_get xs k
get-append_left [] ys k h = absurd (omega arith)
get-append_left (x ∷ xs) ys zero h = refl
get-append_left (x ∷ xs) ys (suc k) h = get-append_left xs ys k (omega arith)

pub get-append_right : {X : Type 0} (xs ys : List X) (k : ℕ) → length xs ≤ k → slice_get (xs ++ ys) k ≡ slice_get ys (k - length xs)
get-append_right [] ys k h = ap (slice_get ys) (omega arith)
get-append_right (x ∷ xs) ys zero h = absurd (omega arith)
get-append_right (x ∷ xs) ys (suc k) h = get-append_right xs ys k (omega arith) ∙ ap (slice_get ys) (omega arith)

-- what is at a place of a list that is made item by item, with the places
get_enumerated : {X Y : Type 0} (f : ℕ × X → Y) (n : ℕ) (xs : List X) (k : ℕ) → slice_get (map f (enumerate_from n xs)) k ≡ option_map (λ x. f (n + k, x)) (slice_get xs k)
get_enumerated f n [] k = refl
get_enumerated f n (x ∷ xs) zero = ap (λ j. Some (f (j, x))) (omega arith)
get_enumerated {X} {Y} f n (x ∷ xs) (suc k) =
    get_enumerated f (n + 1) xs k ∙ ap (λ j. option_map (λ (y : X). f (j, y)) (slice_get xs k)) (omega arith)

pub get_numbered : {X Y : Type 0} (f : ℕ × X → Y) (xs : List X) (k : ℕ) → slice_get (map f (enumerate_from 0 xs)) k ≡ option_map (λ x. f (k, x)) (slice_get xs k)
get_numbered {X} {Y} f xs k =
    get_enumerated f 0 xs k ∙ ap (λ j. option_map (λ (x : X). f (j, x)) (slice_get xs k)) (omega arith)

-- what holds of one of the items, or of each two of them, item by item
pub any_here : {X : Type 0} (P : X → Type 0) (x : X) (xs : List X) → P x → Any P (x ∷ xs)
any_here P x xs here = (0, x, omega arith, refl, here)

pub any_cons : {X : Type 0} (P : X → Type 0) (x : X) (xs : List X) → Any P xs → Any P (x ∷ xs)
any_cons P x xs there = let below : there.0 < length xs = there.2 in (suc there.0, there.1, omega arith, there.3, there.4)

any_at : {X : Type 0} (P : X → Type 0) (x y : X) (xs : List X) (k : ℕ) → k < length (x ∷ xs) → get_or (x ∷ xs) k y ≡ y → P y → P x ⊎ Any P xs
any_at P x y xs zero below at here = inl (subst P (sym at) here)
any_at P x y xs (suc k) below at here = inr (k, y, omega arith, at, here)

pub any_cases : {X : Type 0} (P : X → Type 0) (x : X) (xs : List X) → Any P (x ∷ xs) → P x ⊎ Any P xs
any_cases P x xs there = any_at P x there.1 xs there.0 there.2 there.3 there.4

pub pairs_head : {X : Type 0} (R : X → X → Type 0) (x : X) (xs : List X) → AllPairs R (x ∷ xs) → All (R x) xs
pairs_head R x xs pairs k d below = pairs 0 (suc k) d (omega arith) (omega arith)

pub pairs_tail : {X : Type 0} (R : X → X → Type 0) (x : X) (xs : List X) → AllPairs R (x ∷ xs) → AllPairs R xs
pairs_tail R x xs pairs i j d before below = pairs (suc i) (suc j) d (omega arith) (omega arith)

pairs_at : {X : Type 0} (R : X → X → Type 0) (x : X) (xs : List X) → All (R x) xs → AllPairs R xs → (i j : ℕ) (d : X) → i < j → j < length (x ∷ xs) → R (get_or (x ∷ xs) i d) (get_or (x ∷ xs) j d)
pairs_at R x xs above pairs zero zero d before below = absurd (omega arith)
pairs_at R x xs above pairs (suc i) zero d before below = absurd (omega arith)
pairs_at R x xs above pairs zero (suc j) d before below = above j d (omega arith)
pairs_at R x xs above pairs (suc i) (suc j) d before below = pairs i j d (omega arith) (omega arith)

pub pairs_cons : {X : Type 0} (R : X → X → Type 0) (x : X) (xs : List X) → All (R x) xs → AllPairs R xs → AllPairs R (x ∷ xs)
pairs_cons R x xs above pairs = pairs_at R x xs above pairs

-- what holds of all items holds of those that come first
pub all_front : {X : Type 0} (P : X → Type 0) (xs ys : List X) → All P (xs ++ ys) → All P xs
all_front P xs ys all k d below =
    subst P (get_or_append_left xs ys d k below) (all k d (omega (arith, length-append xs ys)))

pub or_none : {X : Type 0} (o : Option X) → option_or o None ≡ o
or_none None = refl
or_none (Some x) = refl

-- A list whose items are moved to its front, and a list after a vector that was lent as a slice.
use Rattle.std.proofs.Common.{◌≡◌, ◌<◌, ℕ, ◌+◌, ◌≤◌, List, [], ◌∷◌, ◌++◌, length, set, take, drop, get_or, inl, inr, sym, ap, ◌∙◌, arith}
use Rattle.std.specs.List.{swap}
use Rattle.std.proofs.lemmas.Bool.{cases_lt}
use Rattle.std.proofs.lemmas.List.{drop-set-lt, get_or-set_same, get_or_default, length-set, take-set, take-set-le, take_at, take_more_set}

swapped : {X : Type 0} (xs : List X) (i j : ℕ) (d : X) → i < length xs → j < length xs → swap xs i j ≡ set (set xs i (get_or xs j d)) j (get_or xs i d)
swapped {X} [] i j d one two = absurd (omega arith)
swapped {X} (e ∷ xs) i j d one two =
    ap (λ (x : X). set (set (e ∷ xs) i x) j (get_or (e ∷ xs) i e)) (get_or_default (e ∷ xs) j e d two)
    ∙ ap (λ (x : X). set (set (e ∷ xs) i (get_or (e ∷ xs) j d)) j x) (get_or_default (e ∷ xs) i e d one)

-- an item that changes at a place, and is moved after the first so many
pub moved_front : {X : Type 0} (xs : List X) (n p : ℕ) (y : X) → n ≤ p → p < length xs → take (n + 1) (swap (set xs p y) n p) ≡ take n xs ++ y ∷ []
moved_front {X} xs n p y low within =
    let ys : List X = set xs p y in
    let long : length ys ≡ length xs = length-set xs p y in
    let here : get_or ys p y ≡ y = get_or-set_same xs p y y within in
    let is : swap ys n p ≡ set (set ys n y) p (get_or ys n y) =
    swapped ys n p y (omega (arith, long)) (omega (arith, long)) ∙ ap (λ (x : X). set (set ys n x) p (get_or ys n y)) here in
    let front : take n ys ≡ take n xs = take-set-le n xs p y low in
    ap (take (n + 1)) is
    ∙ elim (cases_lt n p) [
      | inl less ↦
          take-set-le (n + 1) (set ys n y) p (get_or ys n y) (omega arith)
          ∙ (take_more_set ys n y (omega (arith, long)) ∙ ap (λ (t : List X). t ++ y ∷ []) front)
      | inr more ↦
          let same : p ≡ n = omega arith in
          ap (λ (m : ℕ). take (n + 1) (set (set ys n y) m (get_or ys n y))) same
          ∙ (take_more_set (set ys n y) n (get_or ys n y) (omega (arith, long, length-set ys n y))
          ∙ (ap (λ (t : List X). t ++ get_or ys n y ∷ []) (take-set ys n y ∙ front)
          ∙ ap (λ (x : X). take n xs ++ x ∷ []) (ap (λ (m : ℕ). get_or ys m y) (sym same) ∙ here)))
    ]

pub moved_back : {X : Type 0} (xs : List X) (n p : ℕ) (y : X) → n ≤ p → p < length xs → drop (p + 1) (swap (set xs p y) n p) ≡ drop (p + 1) xs
moved_back {X} xs n p y low within =
    let ys : List X = set xs p y in
    let long : length ys ≡ length xs = length-set xs p y in
    ap (drop (p + 1)) (swapped ys n p y (omega (arith, long)) (omega (arith, long)))
    ∙ (drop-set-lt (p + 1) (set ys n (get_or ys p y)) p (get_or ys n y) (omega arith)
    ∙ (drop-set-lt (p + 1) ys n (get_or ys p y) (omega arith) ∙ drop-set-lt (p + 1) xs p y (omega arith)))

pub swapped_long : {X : Type 0} (xs : List X) (n p : ℕ) (y : X) → n ≤ p → p < length xs → length (swap (set xs p y) n p) ≡ length xs
swapped_long {X} xs n p y low within =
    let ys : List X = set xs p y in
    let long : length ys ≡ length xs = length-set xs p y in
    ap (λ (t : List X). length t) (swapped ys n p y (omega (arith, long)) (omega (arith, long)))
    ∙ (length-set (set ys n (get_or ys p y)) p (get_or ys n y) ∙ (length-set ys n (get_or ys p y) ∙ long))

-- what a vector has after it was lent as a slice
pub whole : {X : Type 0} (items old : List X) (n : ℕ) → length items ≡ length old → n ≡ length old → take n (items ++ drop (length items) old) ≡ items
whole items old n same long = take_at items (drop (length items) old) n (omega arith)

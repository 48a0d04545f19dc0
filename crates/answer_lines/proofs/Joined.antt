-- Lists that grow by one item at their end: joined by commas, numbered, and over the numbers below one more.
use Rattle.std.proofs.Common.{◌≡◌, ℕ, zero, suc, ◌+◌, ◌<◌, List, [], ◌∷◌, ◌++◌, map, length, take, get_or, false, ◌==◌, if◌then◌else◌, refl, sym, ap, ◌∙◌, append_assoc, append-nil, add-zero, add-one, arith}
use Rattle.std.proofs.lemmas.Bool.Decides.{nat_tests}
use Rattle.std.specs.List.{flat_map, enumerate_from, range_with_len, join_with_byte}
use Rattle.std.proofs.lemmas.List.{take_more, map-append, length-map, length-take}
use Rattle.answer_lines.specs.Steps.{comma_behind}
use Rattle.std.proofs.lemmas.Grind.{flat_map-append}

above_zero : (n : ℕ) → (suc n == 0) ≡ false
above_zero n = grind (arith, nat_tests)

pub comma_suc : (n : ℕ) → comma_behind (suc n) ≡ 44 ∷ []
comma_suc n = ap (λ b. if b then [] else 44 ∷ []) (above_zero n)

pub joined-push : (xs : List (List ℕ)) (x : List ℕ) → join_with_byte 44 (xs ++ x ∷ []) ≡ join_with_byte 44 xs ++ (comma_behind (length xs) ++ x)
joined-push [] x = refl
joined-push (y ∷ []) x = ap (λ c. y ++ (c ++ x)) (sym (comma_suc 0))
joined-push (y ∷ z ∷ xs) x =
    ap (λ r. y ++ (44 ∷ r)) (joined-push (z ∷ xs) x ∙ ap (λ c. join_with_byte 44 (z ∷ xs) ++ (c ++ x)) (comma_suc (length xs)))
    ∙ sym (append_assoc y (44 ∷ join_with_byte 44 (z ∷ xs)) (44 ∷ x))
    ∙ ap (λ c. y ++ (44 ∷ join_with_byte 44 (z ∷ xs)) ++ (c ++ x)) (sym (comma_suc (suc (length xs))))

pub enumerate_from-append : {X : Type 0} (n : ℕ) (xs ys : List X) → enumerate_from n (xs ++ ys) ≡ enumerate_from n xs ++ enumerate_from (n + length xs) ys
enumerate_from-append n [] ys = ap (λ k. enumerate_from k ys) (sym (add-zero n))
enumerate_from-append n (x ∷ xs) ys =
    ap (λ r. (n, x) ∷ r) (enumerate_from-append (n + 1) xs ys) ∙ ap (λ k. (n, x) ∷ (enumerate_from (n + 1) xs ++ enumerate_from k ys)) (counted n xs)
  where
    counted : {X : Type 0} (n : ℕ) (xs : List X) → n + 1 + length xs ≡ n + suc (length xs)
    counted n xs = omega arith

-- the texts of the first items, and of one more
pub joined_more : {X : Type 0} (f : X → List ℕ) (xs : List X) (i : ℕ) (d x : X) → i < length xs → x ≡ get_or xs i d → join_with_byte 44 (map f (take (i + 1) xs)) ≡ join_with_byte 44 (map f (take i xs)) ++ (comma_behind i ++ f x)
joined_more f xs i d x h is =
    ap (λ ys. join_with_byte 44 (map f ys)) (take_more xs i d h) ∙ ap (join_with_byte 44) (map-append f (take i xs) (get_or xs i d ∷ []))
    ∙ joined-push (map f (take i xs)) (f (get_or xs i d)) ∙ ap (λ y. join_with_byte 44 (map f (take i xs)) ++ (comma_behind (length (map f (take i xs))) ++ f y)) (sym is)
    ∙ ap (λ n. join_with_byte 44 (map f (take i xs)) ++ (comma_behind n ++ f x)) (length-map (take i xs) f ∙ length-take i xs ∙ omega arith)

range-push : (a n : ℕ) → range_with_len a (n + 1) ≡ range_with_len a n ++ (a + n) ∷ []
range-push a zero = ap (λ k. k ∷ []) (sym (add-zero a))
range-push a (suc n) = ap (range_with_len a) (add-one (suc n)) ∙ ap (λ k. a ∷ range_with_len (a + 1) k) (sym (add-one n)) ∙ ap (λ r. a ∷ r) (range-push (a + 1) n) ∙ ap (λ k. a ∷ (range_with_len (a + 1) n ++ k ∷ [])) (next a n)
  where
    next : (a n : ℕ) → a + 1 + n ≡ a + suc n
    next a n = omega arith

-- over the numbers below one more
pub over_more : {X : Type 0} (f : ℕ → List X) (n : ℕ) → flat_map f (range_with_len 0 (n + 1)) ≡ flat_map f (range_with_len 0 n) ++ f n
over_more f n =
    ap (flat_map f) (range-push 0 n) ∙ flat_map-append f (range_with_len 0 n) ((0 + n) ∷ [])
    ∙ ap (λ k. flat_map f (range_with_len 0 n) ++ (f k ++ [])) (zero_add n) ∙ ap (λ r. flat_map f (range_with_len 0 n) ++ r) (append-nil (f n))
  where
    zero_add : (n : ℕ) → 0 + n ≡ n
    zero_add n = omega arith

-- over numbered items, and one more
pub numbered_over_more : {X : Type 0} (f : ℕ × X → List ℕ) (xs : List X) (i : ℕ) (x : X) → i < length xs → x ≡ get_or xs i x → flat_map f (enumerate_from 0 (take (i + 1) xs)) ≡ flat_map f (enumerate_from 0 (take i xs)) ++ f (i, x)
numbered_over_more f xs i x h is =
    let front = take i xs in
    let long : 0 + length front ≡ i = ap (λ n. 0 + n) (length-take i xs) ∙ omega arith in
    ap (λ ys. flat_map f (enumerate_from 0 ys)) (take_more xs i x h) ∙ ap (λ y. flat_map f (enumerate_from 0 (front ++ y ∷ []))) (sym is)
    ∙ ap (flat_map f) (enumerate_from-append 0 front (x ∷ [])) ∙ ap (λ k. flat_map f (enumerate_from 0 front ++ (k, x) ∷ [])) long
    ∙ flat_map-append f (enumerate_from 0 front) ((i, x) ∷ []) ∙ ap (λ r. flat_map f (enumerate_from 0 front) ++ r) (append-nil (f (i, x)))

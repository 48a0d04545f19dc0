-- Parts of lists, cut by `drop` and `take`.
use Rattle.std.proofs.Common.{◌≡◌, ℕ, ◌+◌, ◌-◌, ◌≤◌, List, ◌++◌, length, take, drop, sym, ap, ◌∙◌, arith}
use Rattle.std.specs.List.{copy_within}
use Rattle.std.proofs.lemmas.List.Edits.{take-paste, drop-paste}
use Rattle.std.proofs.lemmas.List.{take-take, drop-drop, drop-append-le, take-append-drop, length-drop, length-take-le, drop-take, drop_at}

-- a part of a front that two lists share is shared
pub part_below : {X : Type 0} (xs ys : List X) (i j n : ℕ) → j ≤ n → take n xs ≡ take n ys → drop i (take j xs) ≡ drop i (take j ys)
part_below xs ys i j n le e = ap (drop i) (sym (take-take j n xs le) ∙ ap (take j) e ∙ take-take j n ys le)

-- a part is the front of what comes after a place
pub part_is : {X : Type 0} (xs : List X) (i n : ℕ) → drop i (take (i + n) xs) ≡ take n (drop i xs)
part_is xs i n = drop-take i n xs

-- a part that lies in an end that two lists share is shared
pub part_above : {X : Type 0} (xs ys : List X) (i j : ℕ) → i ≤ j → drop i xs ≡ drop i ys → drop i (take j xs) ≡ drop i (take j ys)
part_above xs ys i j le e =
    let k : j ≡ i + (j - i) = omega arith in
    ap (λ n. drop i (take n xs)) k ∙ part_is xs i (j - i) ∙ ap (take (j - i)) e ∙ sym (part_is ys i (j - i)) ∙ ap (λ n. drop i (take n ys)) (sym k)

-- a part is its first and its second half
pub part_split : {X : Type 0} (xs : List X) (i j k : ℕ) → i ≤ j → j ≤ k → k ≤ length xs → drop i (take k xs) ≡ drop i (take j xs) ++ drop j (take k xs)
part_split xs i j k le le2 le3 =
    let all : take j (take k xs) ++ drop j (take k xs) ≡ take k xs = take-append-drop j (take k xs) in
    let same : take j (take k xs) ≡ take j xs = take-take j k xs le2 in
    let long : length (take j xs) ≡ j = length-take-le j xs (omega arith) in
    sym (ap (drop i) all) ∙ ap (λ l. drop i (l ++ drop j (take k xs))) same ∙ drop-append-le i (take j xs) (drop j (take k xs)) (omega arith)

-- the first bytes of a part
pub part_take : {X : Type 0} (xs : List X) (i n k : ℕ) → i + n ≤ k → take n (drop i (take k xs)) ≡ drop i (take (i + n) xs)
part_take xs i n k le = sym (part_is (take k xs) i n) ∙ ap (drop i) (take-take (i + n) k xs le)

-- what comes after them
pub part_drop : {X : Type 0} (xs : List X) (i n k : ℕ) → drop (i + n) (take k xs) ≡ drop n (drop i (take k xs))
part_drop xs i n k = sym (drop-drop n i (take k xs))

-- what a copy to a place before moves
pub copied : {X : Type 0} (xs ys : List X) (i j d : ℕ) → i ≤ j → j ≤ length xs → d ≤ i → ys ≡ copy_within xs i j d → drop d (take (d + (j - i)) ys) ≡ drop i (take j xs)
copied xs ys i j d le within down is =
    let n = j - i in
    let long : n ≤ length (drop i xs) = omega (arith, length-drop i xs) in
    let front : take (d + n) ys ≡ take d xs ++ take n (drop i xs) = ap (take (d + n)) is ∙ take-paste xs d (drop i xs) n (omega arith) long in
    let at : length (take d xs) ≡ d = length-take-le d xs (omega arith) in
    let last : j ≡ i + n = omega arith in
    ap (drop d) front ∙ drop_at (take d xs) (take n (drop i xs)) d at ∙ sym (part_is xs i n) ∙ ap (λ k. drop i (take k xs)) (sym last)

pub copied_above : {X : Type 0} (xs ys : List X) (i j d n : ℕ) → i ≤ j → j ≤ length xs → d ≤ i → ys ≡ copy_within xs i j d → d + (j - i) ≤ n → drop n ys ≡ drop n xs
copied_above xs ys i j d n le within down is above =
    let k = d + (j - i) in
    let long : j - i ≤ length (drop i xs) = omega (arith, length-drop i xs) in
    let same : drop k ys ≡ drop k xs = ap (drop k) is ∙ drop-paste xs d (drop i xs) (j - i) (omega arith) long in
    let m : n ≡ k + (n - k) = omega arith in
    ap (λ p. drop p ys) m ∙ sym (drop-drop (n - k) k ys) ∙ ap (drop (n - k)) same ∙ drop-drop (n - k) k xs ∙ ap (λ p. drop p xs) (sym m)

-- joining where nothing lies between
pub joined_here : {X : Type 0} (xs : List X) (s j a e n : ℕ) → s ≤ j → a ≤ e → e ≤ length xs → n ≤ e - a → j ≡ a
    → drop s (take (j + n) xs) ≡ drop s (take j xs) ++ take n (drop a (take e xs))
joined_here xs s j a e n sj ae within fits same =
    let le : a + n ≤ e = omega arith in
    part_split xs s j (j + n) sj (omega arith) (omega arith)
    ∙ ap (λ l. drop s (take j xs) ++ l) (ap (λ k. drop k (take (k + n) xs)) same ∙ sym (part_take xs a n e le))

-- joining where bytes lie between
pub joined_moved : {X : Type 0} (xs ys : List X) (s j a e n : ℕ) → s ≤ j → j ≤ a → a ≤ e → e ≤ length xs → n ≤ e - a → length ys ≡ length xs → take j ys ≡ take j xs
    → drop j (take (j + (a + n - a)) ys) ≡ drop a (take (a + n) xs)
    → drop s (take (j + n) ys) ≡ drop s (take j xs) ++ take n (drop a (take e xs))
joined_moved xs ys s j a e n sj ja ae within fits size front moved =
    let le : a + n ≤ e = omega arith in
    let k : j + n ≡ j + (a + n - a) = omega arith in
    part_split ys s j (j + n) sj (omega arith) (omega arith)
    ∙ ap (λ l. l ++ drop j (take (j + n) ys)) (part_below ys xs s j j (omega arith) front)
    ∙ ap (λ l. drop s (take j xs) ++ l) (ap (λ i. drop j (take i ys)) k ∙ moved ∙ sym (part_take xs a n e le))

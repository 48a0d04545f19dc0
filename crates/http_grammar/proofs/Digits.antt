-- Numbers that digits mean.
use Rattle.std.proofs.Common.{◌≡◌, ℕ, ◌+◌, ◌*◌, ◌-◌, ◌<◌, ◌≤◌, ◌⊎◌, List, [], ◌∷◌, ◌++◌, length, take, drop, IsTrue, All, get_or, ◌≢◌, refl, sym, ap, ◌∙◌, subst, arith, inl, inr}
use Rattle.std.specs.Char.{is_ascii_digit, digit_value}
use Rattle.std.specs.Str.Parse.{digits_value, digits_value_after}
use Rattle.std.proofs.lemmas.List.Elements.{All-head, All-tail, All-nil, All-cons, All-get_or}
use Rattle.std.proofs.lemmas.Str.{digit_value_digit}
use Rattle.std.proofs.lemmas.Bool.{cases_order}
use Rattle.std.proofs.lemmas.Bool.Decides.{nat_tests}
use Rattle.std.proofs.lemmas.List.{take-append-drop, take_more}
use Rattle.std.proofs.lemmas.Int.Digits.{digits_value_push}
use Rattle.httparse.specs.Grammar.{AllPass}
use Rattle.http_grammar.specs.Fields.{IsLength}

pub digit_range : (b : ℕ) → IsTrue (is_ascii_digit b) → (48 ≤ b) × (b ≤ 57)
digit_range b digit = (grind (arith, nat_tests), grind (arith, nat_tests))

pub digit_is : (b : ℕ) → IsTrue (is_ascii_digit b) → (digit_value b + 48 ≡ b) × (digit_value b < 10)
digit_is b digit =
    let range = digit_range b digit in
    let is : digit_value b + 48 ≡ b = digit_value_digit b range in
    (is, omega arith)

pub after_append : (n : ℕ) (xs ys : List ℕ) → digits_value_after 10 n (xs ++ ys) ≡ digits_value_after 10 (digits_value_after 10 n xs) ys
after_append n [] ys = refl
after_append n (x ∷ xs) ys = after_append (n * 10 + digit_value x) xs ys

-- more digits never make a number smaller
pub after_least : (n : ℕ) (xs : List ℕ) → n ≤ digits_value_after 10 n xs
after_least n [] = omega arith
after_least n (x ∷ xs) = let more = after_least (n * 10 + digit_value x) xs in omega (arith, more)

digits-head : (x : ℕ) (xs : List ℕ) → AllPass is_ascii_digit (x ∷ xs) → IsTrue (is_ascii_digit x)
digits-head x xs all = All-head (λ b. IsTrue (is_ascii_digit b)) x xs all

digits-tail : (x : ℕ) (xs : List ℕ) → AllPass is_ascii_digit (x ∷ xs) → AllPass is_ascii_digit xs
digits-tail x xs all = All-tail (λ b. IsTrue (is_ascii_digit b)) x xs all

-- the smaller front makes the smaller number
pub after_below : (n m : ℕ) (xs ys : List ℕ) → n < m → length xs ≡ length ys → AllPass is_ascii_digit xs → digits_value_after 10 n xs < digits_value_after 10 m ys
after_below n m [] [] less same all = less
after_below n m [] (y ∷ ys) less same all = absurd (omega arith)
after_below n m (x ∷ xs) [] less same all = absurd (omega arith)
after_below n m (x ∷ xs) (y ∷ ys) less same all =
    let small = digit_is x (digits-head x xs all) in
    after_below (n * 10 + digit_value x) (m * 10 + digit_value y) xs ys (omega (arith, small.1)) (omega arith) (digits-tail x xs all)

less_or : (a b : ℕ) → (a < b) ⊎ ((a ≡ b) ⊎ (b < a))
less_or a b = elim (cases_order a b) [ inl e ↦ inr (inl e) | inr o ↦ elim o [ inl l ↦ inl l | inr m ↦ inr (inr m) ] ]

-- equal numbers of as many digits have the same digits
pub after_same : (n : ℕ) (xs ys : List ℕ) → length xs ≡ length ys → AllPass is_ascii_digit xs → AllPass is_ascii_digit ys → digits_value_after 10 n xs ≡ digits_value_after 10 n ys → xs ≡ ys
after_same n [] [] same all alls equal = refl
after_same n [] (y ∷ ys) same all alls equal = absurd (omega arith)
after_same n (x ∷ xs) [] same all alls equal = absurd (omega arith)
after_same n (x ∷ xs) (y ∷ ys) same all alls equal =
    let left = digit_is x (digits-head x xs all) in
    let right = digit_is y (digits-head y ys alls) in
    elim (less_or (digit_value x) (digit_value y)) [
      | inl less ↦
          let below = after_below (n * 10 + digit_value x) (n * 10 + digit_value y) xs ys (omega arith) (omega arith) (digits-tail x xs all) in
          absurd (omega (arith, below, equal))
      | inr other ↦ elim other [
        | inl is ↦
            let first : x ≡ y = omega (arith, left.0, right.0, is) in
            let rest = after_same (n * 10 + digit_value x) xs ys (omega arith) (digits-tail x xs all) (digits-tail y ys alls)
            (equal ∙ ap (λ d. digits_value_after 10 (n * 10 + d) ys) (sym is)) in
            cc
        | inr more ↦
            let below = after_below (n * 10 + digit_value y) (n * 10 + digit_value x) ys xs (omega arith) (omega arith) (digits-tail y ys alls) in
            absurd (omega (arith, below, equal))
      ]
    ]

-- zeros mean zero, and only they
pub zeros_mean : (xs : List ℕ) → All (λ b. b ≡ 48) xs → digits_value_after 10 0 xs ≡ 0
zeros_mean [] all = refl
zeros_mean (x ∷ xs) all =
    ap (λ b. digits_value_after 10 (0 * 10 + digit_value b) xs) (All-head (λ b. b ≡ 48) x xs all) ∙ zeros_mean xs (All-tail (λ b. b ≡ 48) x xs all)

pub means_zero : (xs : List ℕ) → AllPass is_ascii_digit xs → digits_value_after 10 0 xs ≡ 0 → All (λ b. b ≡ 48) xs
means_zero [] all zero = All-nil (λ b. b ≡ 48)
means_zero (x ∷ xs) all zero =
    let least = after_least (0 * 10 + digit_value x) xs in
    let digit = digit_is x (digits-head x xs all) in
    let none : digit_value x ≡ 0 = omega (arith, least, zero) in
    All-cons (λ b. b ≡ 48) x xs (omega (arith, digit.0, none)) (means_zero xs (digits-tail x xs all) (ap (λ d. digits_value_after 10 (0 * 10 + d) xs) (sym none) ∙ zero))

-- zeros before the same digits don't count
pub padded : (front short : List ℕ) → All (λ b. b ≡ 48) front → digits_value 10 (front ++ short) ≡ digits_value 10 short
padded front short zeros = after_append 0 front short ∙ ap (λ n. digits_value_after 10 n short) (zeros_mean front zeros)

-- and nothing else before as many digits makes the same number
pub padding : (front back short : List ℕ) → length back ≡ length short → AllPass is_ascii_digit front → AllPass is_ascii_digit back → AllPass is_ascii_digit short → digits_value 10 (front ++ back) ≡ digits_value 10 short → All (λ b. b ≡ 48) front × (back ≡ short)
padding front back short same fronts backs shorts equal =
    let split = sym (after_append 0 front back) ∙ equal in
    elim (less_or 0 (digits_value_after 10 0 front)) [
      | inl some ↦
          let below = after_below 0 (digits_value_after 10 0 front) short back some (sym same) shorts in
          absurd (omega (arith, below, split))
      | inr other ↦
          let none : digits_value_after 10 0 front ≡ 0 = elim other [ inl is ↦ sym is | inr less ↦ absurd (omega (arith, less)) ] in (
            means_zero front fronts none,
            after_same 0 back short same backs shorts (ap (λ n. digits_value_after 10 n back) (sym none) ∙ split),
          )
    ]

pub all_parts : {X : Type 0} (P : X → Type 0) (xs ys : List X) → All P (xs ++ ys) → All P xs × All P ys
all_parts P [] ys all = (All-nil P, all)
all_parts P (x ∷ xs) ys all =
    let rest = all_parts P xs ys (All-tail P x (xs ++ ys) all) in
    (All-cons P x xs (All-head P x (xs ++ ys) all) rest.0, rest.1)

-- the longer number is the shorter one exactly where zeros come before the same digits
pub padding_from : (long front back short : List ℕ) → long ≡ front ++ back → length back ≡ length short → AllPass is_ascii_digit long → AllPass is_ascii_digit short → digits_value 10 long ≡ digits_value 10 short → All (λ b. b ≡ 48) front × (back ≡ short)
padding_from long front back short split same longs shorts equal =
    let parts = all_parts (λ b. IsTrue (is_ascii_digit b)) front back (subst (AllPass is_ascii_digit) split longs) in
    padding front back short same parts.0 parts.1 shorts (ap (digits_value 10) (sym split) ∙ equal)

-- one digit more
pub value_next : (ds : List ℕ) (i value : ℕ) → i < length ds → AllPass is_ascii_digit ds → value ≡ digits_value 10 (take i ds) → value * 10 + (get_or ds i 0 - 48) ≡ digits_value 10 (take (i + 1) ds)
value_next ds i value inside all is =
    let digit = digit_is (get_or ds i 0) (All-get_or (λ b. IsTrue (is_ascii_digit b)) ds i 0 inside all) in
    let one : get_or ds i 0 - 48 ≡ digit_value (get_or ds i 0) = omega (arith, digit.0) in
    ap (λ d. value * 10 + d) one ∙ ap (λ v. v * 10 + digit_value (get_or ds i 0)) is
    ∙ sym (digits_value_push 10 (take i ds) (get_or ds i 0)) ∙ ap (digits_value 10) (sym (take_more ds i 0 inside))

-- the number is at least that of a front of its digits
pub value_least : (ds : List ℕ) (n : ℕ) → digits_value 10 (take n ds) ≤ digits_value 10 ds
value_least ds n =
    let whole = ap (digits_value 10) (sym (take-append-drop n ds)) ∙ after_append 0 (take n ds) (drop n ds) in
    let least = after_least (digits_value 10 (take n ds)) (drop n ds) in
    omega (arith, whole, least)

-- two lengths of one list mean the same number
pub one_number : (a b : ℕ) (values : List (List ℕ)) → (values ≢ []) → All (IsLength a) values → All (IsLength b) values → a ≡ b
one_number a b [] some firsts bs = absurd (some refl)
one_number a b (v ∷ vs) some firsts bs = sym (All-head (IsLength a) v vs firsts).2 ∙ (All-head (IsLength b) v vs bs).2

-- a length that means another number
pub other_number : (first value : List ℕ) (values : List (List ℕ)) (n : ℕ) → (values ≢ []) → All (IsLength (digits_value 10 first)) values → All (IsLength n) (values ++ value ∷ []) → digits_value 10 first ≡ digits_value 10 value
other_number first value values n some firsts all =
    let parts = all_parts (IsLength n) values (value ∷ []) all in
    one_number (digits_value 10 first) n values some firsts parts.0 ∙ sym (All-head (IsLength n) value [] parts.1).2

-- A list cut at the first element that passes a test.
use Rattle.std.proofs.Common.{◌≡◌, ℕ, suc, ◌+◌, ◌<◌, List, [], ◌∷◌, length, ◌||◌, not, take, drop, Bool, true, false, Option, Some, None, refl, sym, ap, ap₂, length-drop, cond, ◌∙◌, subst, arith, rules, get_or, eqb-true}
use Rattle.std.proofs.lemmas.Bool.{false≢true}
use Rattle.std.proofs.lemmas.List.Sums.{position_or_len_is}
use Rattle.std.proofs.lemmas.Str.{IsCharBoundary-before_ascii, IsCharBoundary-after_ascii}
use Rattle.std.specs.Str.{IsCharBoundary, IsUtf8}
use Rattle.memchr.specs.Find.{IsFirstByte, is_byte}
use Rattle.std.specs.Borrow.{Bor}
use Rattle.std.specs.Option.{MatchOption, IfSome}
use Rattle.std.specs.List.{list_any, position_or_len, before_first, after_first, slice_split, slice_range, onto_first}

-- where none passes, the place is the end
none_at : (p : ℕ → Bool) (x : ℕ) (xs : List ℕ) (n : ℕ) (b : Bool) → p x ≡ b → (n ≡ length xs → list_any p xs ≡ false) → cond (not b) (1 + n) 0 ≡ length (x ∷ xs) → b || list_any p xs ≡ false
none_at p x xs n true e rest at = absurd (omega arith)
none_at p x xs n false e rest at = rest (omega arith)

pub none_passes : (p : ℕ → Bool) (xs : List ℕ) → position_or_len p xs ≡ length xs → list_any p xs ≡ false
none_passes p [] at = refl
none_passes p (x ∷ xs) at = none_at p x xs (position_or_len p xs) (p x) refl (none_passes p xs) at

some_at : (p : ℕ → Bool) (x : ℕ) (xs : List ℕ) (n : ℕ) (b : Bool) → p x ≡ b → (n < length xs → list_any p xs ≡ true) → cond (not b) (1 + n) 0 < length (x ∷ xs) → b || list_any p xs ≡ true
some_at p x xs n true e rest at = refl
some_at p x xs n false e rest at = rest (omega arith)

pub some_passes : (p : ℕ → Bool) (xs : List ℕ) → position_or_len p xs < length xs → list_any p xs ≡ true
some_passes p [] at = absurd (omega arith)
some_passes p (x ∷ xs) at = some_at p x xs (position_or_len p xs) (p x) refl (some_passes p xs) at

is_false : (b : Bool) → ¬ (b ≡ true) → b ≡ false
is_false true h = absurd (h refl)
is_false false h = refl

-- no place of the byte: it is nowhere in the text
pub no_byte : (m : ℕ) (s : List ℕ) → IsFirstByte (is_byte m) s None → list_any (is_byte m) s ≡ false
no_byte m s h =
    none_passes (is_byte m) s (position_or_len_is (is_byte m) s (length s) 0 (omega arith) (λ k low. is_false _ (h k (omega arith) low)) (λ low. absurd (omega arith)))

-- the first place of the byte is the position of the first that passes
pub byte_at : (m : ℕ) (s : List ℕ) (at : ℕ) → IsFirstByte (is_byte m) s (Some at) → position_or_len (is_byte m) s ≡ at
byte_at m s at h =
    position_or_len_is (is_byte m) s at 0 (let high : at < length s = h.0.high in omega arith) (λ k low. is_false _ (h.0.before k (omega arith) low)) (λ low. h.1)

-- a text may be cut before and after a byte of ASCII
pub cut_before : (m : ℕ) (s : List ℕ) (at : ℕ) → m < 128 → IsFirstByte (is_byte m) s (Some at) → IsCharBoundary s at
cut_before m s at ascii h = let same = eqb-true (get_or s at 0) m h.1 in IsCharBoundary-before_ascii s at h.0.high (omega arith)

pub cut_behind : (m : ℕ) (s : List ℕ) (at : ℕ) → m < 128 → IsUtf8 s → IsFirstByte (is_byte m) s (Some at) → IsCharBoundary s (at + 1)
cut_behind m s at ascii utf8 h = let same = eqb-true (get_or s at 0) m h.1 in IsCharBoundary-after_ascii s at utf8 h.0.high (omega arith)

-- what comes before and after it
pub cut_parts : (m : ℕ) (s before behind : List ℕ) (at : ℕ) → IsFirstByte (is_byte m) s (Some at) → before ≡ slice_range s 0 at → behind ≡ drop (at + 1) s
    → (list_any (is_byte m) s ≡ true) × (before ≡ before_first (is_byte m) s) × (behind ≡ after_first (is_byte m) s)
cut_parts m s before behind at h front back =
    let place = byte_at m s at h in
    let high : at < length s = h.0.high in
    let whole : slice_range s 0 at ≡ take at s = grind arith in
    (some_passes (is_byte m) s (omega arith), front ∙ whole ∙ ap (λ n. take n s) (sym place), back ∙ ap (λ n. drop (n + 1) s) (sym place))

-- the parts of a list in which none passes
whole_at : (p : ℕ → Bool) (x : ℕ) (xs : List ℕ) (b : Bool) → (list_any p xs ≡ false → slice_split p xs ≡ xs ∷ []) → b || list_any p xs ≡ false → cond b ([] ∷ slice_split p xs) (onto_first x (slice_split p xs)) ≡ (x ∷ xs) ∷ []
whole_at p x xs true rest h = absurd (false≢true (sym h))
whole_at p x xs false rest h = rw (rest h) refl

pub one_part : (p : ℕ → Bool) (xs : List ℕ) → list_any p xs ≡ false → slice_split p xs ≡ xs ∷ []
one_part p [] h = refl
one_part p (x ∷ xs) h = whole_at p x xs (p x) (one_part p xs) h

-- the first part, and those after it
parts_at : (p : ℕ → Bool) (x : ℕ) (xs : List ℕ) (n : ℕ) (b : Bool) → (list_any p xs ≡ true → slice_split p xs ≡ take n xs ∷ slice_split p (drop (n + 1) xs)) → b || list_any p xs ≡ true
    → cond b ([] ∷ slice_split p xs) (onto_first x (slice_split p xs)) ≡ take (cond (not b) (1 + n) 0) (x ∷ xs) ∷ slice_split p (drop (cond (not b) (1 + n) 0 + 1) (x ∷ xs))
parts_at p x xs n true rest h = refl
parts_at p x xs n false rest h =
    let one : suc n ≡ 1 + n = omega arith in
    let more : suc (n + 1) ≡ 1 + n + 1 = omega arith in
    let split : onto_first x (slice_split p xs) ≡ (x ∷ take n xs) ∷ slice_split p (drop (n + 1) xs) = ap (onto_first x) (rest h) in
    split ∙ ap₂ (λ a b. take a (x ∷ xs) ∷ slice_split p (drop b (x ∷ xs))) one more

pub first_part : (p : ℕ → Bool) (xs : List ℕ) → list_any p xs ≡ true → slice_split p xs ≡ before_first p xs ∷ slice_split p (after_first p xs)
first_part p [] h = absurd (false≢true h)
first_part p (x ∷ xs) h = parts_at p x xs (position_or_len p xs) (p x) (first_part p xs) h

-- the same of a cut
pub split_cases : (p : ℕ → Bool) (s : List ℕ) (r : Option (Bor (List ℕ) × Bor (List ℕ)))
    → MatchOption r (list_any p s ≡ false) (λ x. (list_any p s ≡ true) × (x.0.now ≡ before_first p s) × (x.1.now ≡ after_first p s))
    → MatchOption r (slice_split p s ≡ s ∷ []) (λ x. slice_split p s ≡ x.0.now ∷ slice_split p x.1.now)
split_cases p s None h = one_part p s h
split_cases p s (Some x) h = first_part p s h.0 ∙ ap₂ (λ a b. a ∷ slice_split p b) (sym h.1) (sym h.2)

-- a cut leaves less
pub after_shorter : (p : ℕ → Bool) (xs : List ℕ) → list_any p xs ≡ true → length (after_first p xs) < length xs
after_shorter p [] h = absurd (false≢true h)
after_shorter p (x ∷ xs) h =
    let n = position_or_len p (x ∷ xs) in
    omega (arith, length-drop (n + 1) (x ∷ xs))

pub shorter_cases : (p : ℕ → Bool) (s : List ℕ) (r : Option (Bor (List ℕ) × Bor (List ℕ)))
    → MatchOption r (list_any p s ≡ false) (λ x. (list_any p s ≡ true) × (x.0.now ≡ before_first p s) × (x.1.now ≡ after_first p s))
    → IfSome r (λ x. length x.1.now < length s)
shorter_cases p s None h = search rules
shorter_cases p s (Some x) h = subst (λ k. k < length s) (ap length (sym h.2)) (after_shorter p s h.0)

-- A price's text is read back as the price.
use Rattle.std.proofs.Common.{◌≡◌, ℕ, ◌+◌, ◌-◌, ◌*◌, ◌/◌, ◌%◌, ◌^◌, ◌<◌, ◌≤◌, inl, inr, Bool, true, false, not, cond, ◌&&◌, ◌||◌, List, [], ◌∷◌, ◌++◌, take, drop, length, eqb, nat_le, decimal, sym, ap, ap₂, refl, ◌∙◌, arith, add-zero, ne_eqb, eq-eqb, le-leb, leb-true, append-nil, take_all, mul-div_cancel, pow-add, le-ltb, mul_assoc, zero-mul, eq-zero-or-pos, drop-drop, Ok, ltb}
use Rattle.std.specs.List.{list_all, list_any, position_or_len, before_first, after_first}
use Rattle.std.proofs.Math.Nat.{one-le-pow}
use Rattle.std.proofs.lemmas.List.{take_at, drop_at}
use Rattle.std.proofs.lemmas.List.Folds.{list_all-append, list_any-append}
use Rattle.std.proofs.lemmas.Fmt.{decimal_by_steps}
use Rattle.std.proofs.lemmas.Bool.{and_parts, and_from, or_from, or_parts, or_left, or_right}
use Rattle.adx_units.specs.Number.{is_digit, is_digits, is_whole, is_decimal, is_number, is_point, is_exponent_mark, begins_with, has_minus, without_minus, without_sign, decimal_part, exponent_part, whole_digits, fraction_digits, raised, lowered, digits_value, numerator, denominator}
use Rattle.adx_units.proofs.Digits.{digits_value-append}
use Rattle.adx_units.specs.Money.{units, price_units, price_of, without_last_zeros, six_decimals}
use Rattle.adx_units.proofs.Faults.{three_fail}
use Rattle.adx_units.proofs.Trimmed.{trimmed_value, trimmed_digits, trimmed_length, six_digits, six_value}
use Rattle.adx_units.proofs.Parts.{after_none, place_none}

-- the digits of a whole number, as JSON writes them
pub record IsWholeOf (n : ℕ) (ds : List ℕ) : Type 0 where
  pub digits : list_all is_digit ds ≡ true
  pub some : 1 ≤ length ds
  pub value : digits_value ds ≡ n
  pub first : 0 < n → begins_with 48 ds ≡ false
  pub zero : n ≡ 0 → length ds ≡ 1

one_digit : (n : ℕ) → n < 10 → is_digit (48 + n) ≡ true
one_digit n h = and_from (nat_le 48 (48 + n)) (nat_le (48 + n) 57) (le-leb 48 (48 + n) (omega arith)) (le-leb (48 + n) 57 (omega arith))

more_digits : (n : ℕ) (ds : List ℕ) → 10 ≤ n → IsWholeOf (n / 10) ds → IsWholeOf n (ds ++ (48 + n % 10) ∷ [])
more_digits n [] large h = let some = h.some in absurd (omega arith)
more_digits n (d ∷ ds) large h = record {
  digits = list_all-append is_digit (d ∷ ds) ((48 + n % 10) ∷ []) ∙ and_from (list_all is_digit (d ∷ ds)) (is_digit (48 + n % 10) && true) h.digits (and_from (is_digit (48 + n % 10)) true (one_digit (n % 10) (omega arith)) refl);
  some = omega arith;
  value = (let value = h.value in let joined = digits_value-append (d ∷ ds) ((48 + n % 10) ∷ []) in let power : 10 ^ 1 ≡ 10 = refl in omega arith);
  first = λ _. h.first (omega arith);
  zero = λ none. absurd (omega arith);
}

pub decimal_whole : (n : ℕ) → n < 2 ^ 64 → IsWholeOf n (decimal n)
decimal_whole = decimal_by_steps IsWholeOf (λ n small. record {
  digits = and_from (is_digit (48 + n)) true (one_digit n small) refl;
  some = omega arith;
  value = omega arith;
  first = λ more. ne_eqb (48 + n) 48 (λ e. absurd (omega arith));
  zero = λ _. refl;
}) more_digits

-- what may come after a whole number's digits: nothing, or a point and the digits `ds`
pub record IsTail (tail ds : List ℕ) : Type 0 where
  pub digits : list_all is_digit ds ≡ true
  pub marks : list_any is_exponent_mark tail ≡ false
  pub place : position_or_len is_point tail ≡ 0
  pub rest : drop 1 tail ≡ ds
  pub valid : (not (list_any is_point tail) || is_digits ds) ≡ true

digit_bounds : (b : ℕ) → is_digit b ≡ true → (48 ≤ b) × (b ≤ 57)
digit_bounds b h = let both = and_parts (nat_le 48 b) (nat_le b 57) h in (leb-true 48 b both.0, leb-true b 57 both.1)

mark_not : (b : ℕ) → is_digit b ≡ true → is_exponent_mark b ≡ false
mark_not b h =
    let bounds = digit_bounds b h in
    let low : 48 ≤ b = bounds.0 in
    let high : b ≤ 57 = bounds.1 in
    or_from (eqb b 101) (eqb b 69) (ne_eqb b 101 (λ e. absurd (omega arith))) (ne_eqb b 69 (λ e. absurd (omega arith)))

point_not : (b : ℕ) → is_digit b ≡ true → is_point b ≡ false
point_not b h = let low : 48 ≤ b = (digit_bounds b h).0 in ne_eqb b 46 (λ e. absurd (omega arith))

none_passes : (p : ℕ → Bool) → ((b : ℕ) → is_digit b ≡ true → p b ≡ false) → (ds : List ℕ) → list_all is_digit ds ≡ true → list_any p ds ≡ false
none_passes p never [] h = refl
none_passes p never (d ∷ ds) h =
    let both = and_parts (is_digit d) (list_all is_digit ds) h in
    or_from (p d) (list_any p ds) (never d both.0) (none_passes p never ds both.1)

place_append : (p : ℕ → Bool) (a b : List ℕ) → list_any p a ≡ false → position_or_len p (a ++ b) ≡ length a + position_or_len p b
place_append p [] b h = omega arith
place_append p (x ∷ a) b h =
    let both = or_parts (p x) (list_any p a) h in
    let here : position_or_len p (x ∷ (a ++ b)) ≡ 1 + position_or_len p (a ++ b) = ap (λ c. cond (not c) (1 + position_or_len p (a ++ b)) 0) both.0 in
    let rest = place_append p a b both.1 in
    omega arith

pub no_tail : IsTail [] []
no_tail = record { digits = refl; marks = refl; place = refl; rest = refl; valid = refl }

pub point_tail : (ds : List ℕ) → list_all is_digit ds ≡ true → 1 ≤ length ds → IsTail (46 ∷ ds) ds
point_tail ds h some = record {
  digits = h;
  marks = none_passes is_exponent_mark mark_not ds h;
  place = refl;
  rest = refl;
  valid = and_from (nat_le 1 (length ds)) (list_all is_digit ds) (le-leb 1 (length ds) some) h;
}

-- a whole number's digits begin with no minus
begins_not : (n : ℕ) (w tail : List ℕ) → IsWholeOf n w → (has_minus (w ++ tail) ≡ false) × (without_minus (w ++ tail) ≡ w ++ tail)
begins_not n [] tail h = let some = h.some in absurd (omega arith)
begins_not n (d ∷ ds) tail h =
    let digit : is_digit d ≡ true = (and_parts (is_digit d) (list_all is_digit ds) h.digits).0 in
    let low : 48 ≤ d = (digit_bounds d digit).0 in
    let not_minus : eqb d 45 ≡ false = ne_eqb d 45 (λ e. absurd (omega arith)) in
    (not_minus, ap (λ b. cond b (ds ++ tail) (d ∷ (ds ++ tail))) not_minus)

whole_is : (n : ℕ) (w : List ℕ) → IsWholeOf n w → is_whole w ≡ true
whole_is n w h =
    let digits : is_digits w ≡ true = and_from (nat_le 1 (length w)) (list_all is_digit w) (le-leb 1 (length w) h.some) h.digits in
    let first : (eqb (length w) 1 || not (begins_with 48 w)) ≡ true = elim (eq-zero-or-pos n) [
      | inl none ↦ or_left (eqb (length w) 1) (not (begins_with 48 w)) (eq-eqb (length w) 1 (h.zero none))
      | inr more ↦ or_right (eqb (length w) 1) (not (begins_with 48 w)) (ap not (h.first more))
    ] in
    and_from (is_digits w) (eqb (length w) 1 || not (begins_with 48 w)) digits first

-- the parts of such a text
pub record IsRead (t w ds : List ℕ) : Type 0 where
  pub number : is_number t ≡ true
  pub minus : has_minus t ≡ false
  pub whole : whole_digits t ≡ w
  pub fraction : fraction_digits t ≡ ds
  pub up : raised t ≡ 0
  pub down : lowered t ≡ 0

pub read_parts : (n : ℕ) (w tail ds : List ℕ) → IsWholeOf n w → IsTail tail ds → IsRead (w ++ tail) w ds
read_parts n w tail ds h k =
    let t : List ℕ = w ++ tail in
    let marks : list_any is_exponent_mark t ≡ false = list_any-append is_exponent_mark w tail ∙ or_from (list_any is_exponent_mark w) (list_any is_exponent_mark tail) (none_passes is_exponent_mark mark_not w h.digits) k.marks in
    let mark_place = place_none is_exponent_mark t marks in
    let front : before_first is_exponent_mark t ≡ t = take_all (position_or_len is_exponent_mark t) t (omega arith) in
    let behind : exponent_part t ≡ [] = after_none is_exponent_mark t marks in
    let first = begins_not n w tail h in
    let middle : decimal_part t ≡ t = ap without_minus front ∙ first.1 in
    let points = none_passes is_point point_not w h.digits in
    let place : position_or_len is_point t ≡ length w = place_append is_point w tail points ∙ (let at = k.place in omega arith) in
    let before : before_first is_point t ≡ w = ap (λ i. take i t) place ∙ take_at w tail (length w) refl in
    let after : after_first is_point t ≡ ds = ap (λ i. drop (i + 1) t) place ∙ sym (drop-drop 1 (length w) t) ∙ ap (drop 1) (drop_at w tail (length w) refl) ∙ k.rest in
    let same_points : list_any is_point t ≡ list_any is_point tail = list_any-append is_point w tail ∙ ap (λ b. b || list_any is_point tail) points in
    let fraction : (not (list_any is_point t) || is_digits (after_first is_point t)) ≡ true = ap₂ (λ b l. not b || is_digits l) same_points after ∙ k.valid in
    let decimal_is : is_decimal t ≡ true = and_from (is_whole (before_first is_point t)) (not (list_any is_point t) || is_digits (after_first is_point t)) (ap is_whole before ∙ whole_is n w h) fraction in
    record {
      number = and_from (is_decimal (decimal_part t)) (not (list_any is_exponent_mark t) || is_digits (without_sign (exponent_part t))) (ap is_decimal middle ∙ decimal_is) (or_left (not (list_any is_exponent_mark t)) (is_digits (without_sign (exponent_part t))) (ap not marks));
      minus = first.0;
      whole = ap (before_first is_point) middle ∙ before;
      fraction = ap (after_first is_point) middle ∙ after;
      up = ap (λ e. cond (has_minus e) 0 (digits_value (without_sign e))) behind;
      down = ap (λ e. cond (has_minus e) (digits_value (without_sign e)) 0) behind;
    }

-- its value in units
pub units_read : (t w ds : List ℕ) (n part : ℕ) → IsRead t w ds → digits_value w ≡ n → length ds ≤ 6 → digits_value ds * 10 ^ (6 - length ds) ≡ part → price_units t ≡ n * 1000000 + part
units_read t w ds n part r value short decimals =
    let l : ℕ = length ds in
    let top : numerator t ≡ digits_value (w ++ ds) * 10 ^ 0 = ap₂ (λ a k. digits_value a * 10 ^ k) (ap₂ (λ a b. a ++ b) r.whole r.fraction) r.up in
    let down = r.down in
    let bottom : denominator t ≡ 10 ^ l = ap₂ (λ a k. 10 ^ (length a + k)) r.fraction r.down ∙ ap (λ k. 10 ^ k) (add-zero l) in
    let whole : 10 ^ (6 - l) * 10 ^ l ≡ 1000000 = sym (pow-add 10 (6 - l) l) ∙ ap (λ k. 10 ^ k) (let e : 6 - l + l ≡ 6 = omega arith in e) in
    let joined : digits_value (w ++ ds) ≡ n * 10 ^ l + digits_value ds = digits_value-append w ds ∙ ap (λ k. k * 10 ^ l + digits_value ds) value in
    let part_up : digits_value ds * 1000000 ≡ part * 10 ^ l = ap (λ k. digits_value ds * k) (sym whole) ∙ sym (mul_assoc (digits_value ds) (10 ^ (6 - l)) (10 ^ l)) ∙ ap (λ k. k * 10 ^ l) decimals in
    let product : digits_value (w ++ ds) * 10 ^ 0 * 1000000 ≡ (n * 1000000 + part) * 10 ^ l = omega arith in
    ap₂ (λ a b. a * 1000000 / b) top bottom ∙ ap (λ a. a / 10 ^ l) product ∙ mul-div_cancel (n * 1000000 + part) (one-le-pow l 10 (omega arith))

pub price_read : (t : List ℕ) (u : ℕ) → is_number t ≡ true → has_minus t ≡ false → price_units t ≡ u → 1 ≤ u → u ≤ 1000000000000 → price_of t ≡ Ok (units u)
price_read t u number minus value some few =
    sym (three_fail (is_number t) (has_minus t || eqb (price_units t) 0) (ltb 1000000000000 (price_units t)) _ _ _ _ _ number (or_from (has_minus t) (eqb (price_units t) 0) minus (ne_eqb (price_units t) 0 (λ e. absurd (omega arith)))) (le-ltb 1000000000000 (price_units t) (omega arith)) (ap (λ n. Ok (units n)) (sym value)))

some_digit : (ds : List ℕ) (p part : ℕ) → digits_value ds * p ≡ part → (part ≡ 0 → ⊥) → 1 ≤ length ds
some_digit [] p part e h = absurd (h (sym e ∙ zero-mul p))
some_digit (d ∷ ds) p part e h = omega arith

-- a price's text with no point, and one with a point
pub whole_read : (u : ℕ) → u < 2 ^ 64 → u % 1000000 ≡ 0 → 1 ≤ u → u ≤ 1000000000000 → price_of (decimal (u / 1000000)) ≡ Ok (units u)
whole_read u small none some few =
    let w : List ℕ = decimal (u / 1000000) in
    let whole = decimal_whole (u / 1000000) (omega arith) in
    let r = read_parts (u / 1000000) w [] [] whole no_tail in
    let value = units_read (w ++ []) w [] (u / 1000000) 0 r whole.value (omega arith) refl in
    ap price_of (sym (append-nil w)) ∙ price_read (w ++ []) u r.number r.minus (value ∙ omega arith) some few

pub point_read : (u : ℕ) → u < 2 ^ 64 → (u % 1000000 ≡ 0 → ⊥) → 1 ≤ u → u ≤ 1000000000000 → price_of (decimal (u / 1000000) ++ (46 ∷ without_last_zeros (six_decimals u))) ≡ Ok (units u)
point_read u small part some few =
    let w : List ℕ = decimal (u / 1000000) in
    let ds : List ℕ = without_last_zeros (six_decimals u) in
    let whole = decimal_whole (u / 1000000) (omega arith) in
    let digits = trimmed_digits (six_decimals u) (six_digits u) in
    let short : length ds ≤ 6 = trimmed_length (six_decimals u) in
    let decimals : digits_value ds * 10 ^ (6 - length ds) ≡ u % 1000000 = trimmed_value (six_decimals u) ∙ six_value u in
    let nonempty : 1 ≤ length ds = some_digit ds (10 ^ (6 - length ds)) (u % 1000000) decimals part in
    let r = read_parts (u / 1000000) w (46 ∷ ds) ds whole (point_tail ds digits nonempty) in
    let value = units_read (w ++ (46 ∷ ds)) w ds (u / 1000000) (u % 1000000) r whole.value short decimals in
    price_read (w ++ (46 ∷ ds)) u r.number r.minus (value ∙ omega arith) some few

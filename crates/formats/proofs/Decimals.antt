-- The decimal of a number is the one whole text of digits that represents it.
use Rattle.std.proofs.Common.{◌≡◌, ℕ, suc, ◌+◌, ◌-◌, ◌*◌, ◌/◌, ◌%◌, ◌^◌, ◌<◌, ◌≤◌, ◌&&◌, ◌||◌, not, ◌==◌, nat_le, List, [], ◌∷◌, ◌++◌, length, get_or, take, Bool, true, false, eqb, refl, sym, ap, ap₂, ◌∙◌, arith, inl, inr, pow-suc, mul-le-mul_right}
use Rattle.std.specs.List.{list_all}
use Rattle.std.specs.Fmt.{decimal}
use Rattle.std.proofs.Math.Nat.{one-le-pow}
use Rattle.std.proofs.lemmas.Bool.{and_parts, and_from, or_cases, or_right, or_left, leb-true, le-leb, eqb-true, eq-eqb, ne_eqb, cases_lt, cases_eq, not-true, false≢true}
use Rattle.std.proofs.lemmas.List.Folds.{list_all-append}
use Rattle.std.proofs.lemmas.List.{take_more, take_all, length-take}
use Rattle.std.proofs.lemmas.List.Sums.{fold-append}
use Rattle.std.proofs.lemmas.Fmt.{decimal_by_steps_wide}
use Rattle.adx_units.specs.Number.{is_digit, is_whole, is_digits, begins_with, digits_value}
use Rattle.adx_units.proofs.Digits.{step, digits_from, digits_value-append}
use Rattle.adx_units.proofs.Written.{IsWholeOf}

digit_is : (d : ℕ) → d < 10 → is_digit (48 + d) ≡ true
digit_is d h = and_from (nat_le 48 (48 + d)) (nat_le (48 + d) 57) (le-leb 48 (48 + d) (omega arith)) (le-leb (48 + d) 57 (omega arith))

digit_parts : (b : ℕ) → is_digit b ≡ true → (48 ≤ b) × (b ≤ 57)
digit_parts b h =
    let both = and_parts (nat_le 48 b) (nat_le b 57) h in
    (leb-true 48 b both.0, leb-true b 57 both.1)

more_digits : (n : ℕ) (ds : List ℕ) → 10 ≤ n → IsWholeOf (n / 10) ds → IsWholeOf n (ds ++ (48 + n % 10) ∷ [])
more_digits n [] large h = let some = h.some in absurd (omega arith)
more_digits n (d ∷ ds) large h = record {
  digits = list_all-append is_digit (d ∷ ds) ((48 + n % 10) ∷ []) ∙ and_from (list_all is_digit (d ∷ ds)) (is_digit (48 + n % 10) && true) h.digits (and_from (is_digit (48 + n % 10)) true (digit_is (n % 10) (omega arith)) refl);
  some = omega arith;
  value = (let value = h.value in let joined = digits_value-append (d ∷ ds) ((48 + n % 10) ∷ []) in let power : 10 ^ 1 ≡ 10 = refl in omega arith);
  first = λ _. h.first (omega arith);
  zero = λ none. absurd (omega arith);
}

pub decimal_whole : (n : ℕ) → n < 10 ^ 64 → IsWholeOf n (decimal n)
decimal_whole = decimal_by_steps_wide IsWholeOf (λ n small. record {
  digits = and_from (is_digit (48 + n)) true (digit_is n small) refl;
  some = omega arith;
  value = omega arith;
  first = λ more. ne_eqb (48 + n) 48 (λ e. absurd (omega arith));
  zero = λ _. refl;
}) more_digits

long_value : (e : ℕ) (es : List ℕ) → 49 ≤ e → 0 < length es → 10 ≤ digits_value (e ∷ es)
long_value e [] h some = absurd (omega arith)
long_value e (f ∷ es) h some =
    let whole : digits_value (e ∷ f ∷ es) ≡ (10 * 0 + (e - 48)) * 10 ^ suc (length es) + digits_value (f ∷ es) = digits_from (10 * 0 + (e - 48)) (f ∷ es) in
    let power : 10 ^ suc (length es) ≡ 10 ^ length es * 10 = pow-suc 10 (length es) in
    let ten : 0 < 10 = omega arith in
    let one : 1 ≤ 10 ^ length es = one-le-pow (length es) 10 ten in
    let tens : 10 ≤ 10 ^ suc (length es) = omega arith in
    let least : 1 ≤ 10 * 0 + (e - 48) = omega arith in
    let times : 1 * 10 ^ suc (length es) ≤ (10 * 0 + (e - 48)) * 10 ^ suc (length es) = mul-le-mul_right (10 ^ suc (length es)) least in
    omega (arith, whole, tens, times)

first_above : (e : ℕ) → is_digit e ≡ true → eqb e 48 ≡ false → 49 ≤ e
first_above e d h =
    let low = (digit_parts e d).0 in
    elim (cases_eq e 48) [
      | inl same ↦ absurd (false≢true (sym h ∙ eq-eqb e 48 same))
      | inr apart ↦ omega arith
    ]

one_alone : (n : ℕ) → n < 10 → (es : List ℕ) → IsWholeOf n es → ((48 + n) ∷ []) ≡ es
one_alone n h [] w = let some = w.some in absurd (omega arith)
one_alone n h (e ∷ []) w =
    let d = digit_parts e (and_parts (is_digit e) true w.digits).0 in
    let low : 48 ≤ e = d.0 in
    let value : 10 * 0 + (e - 48) ≡ n = w.value in
    let same : 48 + n ≡ e = omega arith in
    ap (λ (x : ℕ). x ∷ []) same
one_alone n h (e ∷ f ∷ es) w =
    let d = (and_parts (is_digit e) (list_all is_digit (f ∷ es)) w.digits).0 in
    elim (cases_lt 0 n) [
      | inl more ↦
          let large : 10 ≤ digits_value (e ∷ f ∷ es) = long_value e (f ∷ es) (first_above e d (w.first more)) (omega arith) in
          let value : digits_value (e ∷ f ∷ es) ≡ n = w.value in
          absurd (omega (arith, large, value))
      | inr none ↦ let one : suc (suc (length es)) ≡ 1 = w.zero (omega arith) in absurd (omega arith)
    ]

front_begins : (es : List ℕ) (i : ℕ) → begins_with 48 (take (suc i) es) ≡ begins_with 48 es
front_begins [] i = refl
front_begins (e ∷ es) i = refl

front_all : (p : ℕ → Bool) (a b : List ℕ) → list_all p (a ++ b) ≡ true → (list_all p a ≡ true) × (list_all p b ≡ true)
front_all p a b h = and_parts (list_all p a) (list_all p b) (sym (list_all-append p a b) ∙ h)

-- a text is cut before its last digit
last_cut : (n : ℕ) (ds : List ℕ) → 10 ≤ n → ((es : List ℕ) → IsWholeOf (n / 10) es → ds ≡ es) → (i : ℕ) (es : List ℕ) → length es ≡ suc (suc i) → IsWholeOf n es → ds ++ (48 + n % 10) ∷ [] ≡ es
last_cut n ds large before i es len w =
    let within : suc i < length es = omega arith in
    let one_more : suc i + 1 ≡ suc (suc i) = omega arith in
    let whole : take (suc i + 1) es ≡ es = take_all (suc i + 1) es (omega arith) in
    let parts : take (suc i + 1) es ≡ take (suc i) es ++ get_or es (suc i) 0 ∷ [] = take_more es (suc i) 0 within in
    let cut : es ≡ take (suc i) es ++ get_or es (suc i) 0 ∷ [] = sym whole ∙ parts in
    let last : ℕ = get_or es (suc i) 0 in
    let all = front_all is_digit (take (suc i) es) (last ∷ []) (sym (ap (list_all is_digit) cut) ∙ w.digits) in
    let d = digit_parts last (and_parts (is_digit last) true all.1).0 in
    let low : 48 ≤ last = d.0 in
    let high : last ≤ 57 = d.1 in
    let value : digits_value es ≡ 10 * digits_value (take (suc i) es) + (last - 48) = ap digits_value cut ∙ fold-append step 0 (take (suc i) es) (last ∷ []) in
    let n_is : digits_value es ≡ n = w.value in
    let front_value : digits_value (take (suc i) es) ≡ n / 10 = omega (arith, value, n_is, low, high) in
    let last_is : 48 + n % 10 ≡ last = omega (arith, value, n_is, low, high) in
    let front_len : length (take (suc i) es) ≡ suc i = omega (arith, length-take (suc i) es, len) in
    let front : IsWholeOf (n / 10) (take (suc i) es) = record {
      digits = all.0;
      some = omega (arith, front_len);
      value = front_value;
      first = λ _. front_begins es i ∙ w.first (omega arith);
      zero = λ none. absurd (omega arith);
    } in
    ap₂ (λ (a : List ℕ) (x : ℕ). a ++ x ∷ []) (before (take (suc i) es) front) last_is ∙ sym cut

more_alone : (n : ℕ) (ds : List ℕ) → 10 ≤ n → ((es : List ℕ) → IsWholeOf (n / 10) es → ds ≡ es) → (es : List ℕ) → IsWholeOf n es → ds ++ (48 + n % 10) ∷ [] ≡ es
more_alone n ds large before [] w = let some = w.some in absurd (omega arith)
more_alone n ds large before (e ∷ []) w =
    let d = digit_parts e (and_parts (is_digit e) true w.digits).0 in
    let value : 10 * 0 + (e - 48) ≡ n = w.value in
    let high : e ≤ 57 = d.1 in
    absurd (omega arith)
more_alone n ds large before (e ∷ f ∷ es) w = last_cut n ds large before (length es) (e ∷ f ∷ es) refl w

pub decimal_alone : (n : ℕ) → n < 10 ^ 64 → (es : List ℕ) → IsWholeOf n es → decimal n ≡ es
decimal_alone = decimal_by_steps_wide (λ (n : ℕ) (ds : List ℕ). (es : List ℕ) → IsWholeOf n es → ds ≡ es) one_alone more_alone

pub decimal_is_digits : (n : ℕ) → n < 10 ^ 64 → list_all is_digit (decimal n) ≡ true
decimal_is_digits n h = (decimal_whole n h).digits

pub decimal_value : (n : ℕ) → n < 10 ^ 64 → digits_value (decimal n) ≡ n
decimal_value n h = (decimal_whole n h).value

whole_of : (n : ℕ) (ds : List ℕ) → IsWholeOf n ds → is_whole ds ≡ true
whole_of n ds w =
    let digits : is_digits ds ≡ true = and_from (nat_le 1 (length ds)) (list_all is_digit ds) (le-leb 1 (length ds) w.some) w.digits in
    let first : (length ds == 1 || not (begins_with 48 ds)) ≡ true = elim (cases_lt 0 n) [
      | inl more ↦ or_right (length ds == 1) (not (begins_with 48 ds)) (ap not (w.first more))
      | inr none ↦ or_left (length ds == 1) (not (begins_with 48 ds)) (eq-eqb (length ds) 1 (w.zero (omega arith)))
    ] in
    and_from (is_digits ds) (length ds == 1 || not (begins_with 48 ds)) digits first

pub decimal_is_whole : (n : ℕ) → n < 10 ^ 64 → is_whole (decimal n) ≡ true
decimal_is_whole n h = whole_of n (decimal n) (decimal_whole n h)

-- a whole text that represents 0 is one digit
zero_alone : (ds : List ℕ) → list_all is_digit ds ≡ true → begins_with 48 ds ≡ false → 0 < length ds → digits_value ds ≡ 0 → length ds ≡ 1
zero_alone [] digits first some none = absurd (omega arith)
zero_alone (d ∷ []) digits first some none = refl
zero_alone (d ∷ e ∷ ds) digits first some none =
    let large : 10 ≤ digits_value (d ∷ e ∷ ds) = long_value d (e ∷ ds) (first_above d (and_parts (is_digit d) (list_all is_digit (e ∷ ds)) digits).0 first) (omega arith) in
    absurd (omega (arith, large, none))

-- one digit that begins with 0 represents 0
one_zero : (ds : List ℕ) → length ds ≡ 1 → begins_with 48 ds ≡ true → digits_value ds ≡ 0
one_zero [] len h = absurd (omega arith)
one_zero (d ∷ []) len h = let is : d ≡ 48 = eqb-true d 48 h in omega arith
one_zero (d ∷ e ∷ ds) len h = absurd (omega arith)

first_not : (ds : List ℕ) (b : Bool) → begins_with 48 ds ≡ b → length ds ≡ 1 → 0 < digits_value ds → begins_with 48 ds ≡ false
first_not ds true e len more = absurd (omega (arith, one_zero ds len e))
first_not ds false e len more = e

whole_parts : (ds : List ℕ) → is_whole ds ≡ true → IsWholeOf (digits_value ds) ds
whole_parts ds h =
    let both = and_parts (is_digits ds) (length ds == 1 || not (begins_with 48 ds)) h in
    let digits = and_parts (nat_le 1 (length ds)) (list_all is_digit ds) both.0 in
    let some : 1 ≤ length ds = leb-true 1 (length ds) digits.0 in
    elim (or_cases (length ds == 1) (not (begins_with 48 ds)) both.1) [
      | inl one ↦
          let len : length ds ≡ 1 = eqb-true (length ds) 1 one in
          record { digits = digits.1; some = some; value = refl; first = λ more. first_not ds (begins_with 48 ds) refl len more; zero = λ _. len }
      | inr none ↦
          let first : begins_with 48 ds ≡ false = not-true (begins_with 48 ds) none in
          record { digits = digits.1; some = some; value = refl; first = λ _. first; zero = λ z. zero_alone ds digits.1 first some z }
    ]

pub decimal_of_whole : (ds : List ℕ) → is_whole ds ≡ true → digits_value ds < 10 ^ 64 → decimal (digits_value ds) ≡ ds
decimal_of_whole ds h small = decimal_alone (digits_value ds) small ds (whole_parts ds h)

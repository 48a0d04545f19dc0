-- Digits without the zeros at their end: their value, and that they are digits.
use Rattle.std.proofs.Common.{◌≡◌, ℕ, suc, ◌+◌, ◌-◌, ◌*◌, ◌/◌, ◌%◌, ◌^◌, ◌<◌, ◌≤◌, Bool, true, ◌&&◌, List, [], ◌∷◌, ◌++◌, take, drop, reverse, length, get_or, eqb, nat_le, sym, ap, refl, ◌∙◌, arith, take-append-drop, length-drop, length-take, get_or-drop, zero-mul, eqb-true, le-leb}
use Rattle.std.specs.List.{list_all, suffix_len}
use Rattle.std.proofs.lemmas.List.{get_or-reverse, length-take-le}
use Rattle.std.proofs.lemmas.List.Sums.{suffix_len-le-length, prefix_len_passes}
use Rattle.std.proofs.lemmas.List.Folds.{list_all-append}
use Rattle.std.proofs.lemmas.Bool.{and_parts, and_from}
use Rattle.adx_units.specs.Number.{is_digit, digits_value}
use Rattle.adx_units.specs.Money.{without_last_zeros, six_decimals}
use Rattle.adx_units.proofs.Digits.{digits_value-append, digits_from}

abbrev is_zero : ℕ → Bool
is_zero b = eqb b 48

zeros_value : (ds : List ℕ) → ((k : ℕ) → k < length ds → get_or ds k 0 ≡ 48) → digits_value ds ≡ 0
zeros_value [] h = refl
zeros_value (d ∷ ds) h =
    let first : d ≡ 48 = h 0 (omega arith) in
    let alone = digits_from (10 * 0 + (d - 48)) ds in
    let none : 10 * 0 + (d - 48) ≡ 0 = omega arith in
    let gone : (10 * 0 + (d - 48)) * 10 ^ length ds ≡ 0 = ap (λ n. n * 10 ^ length ds) none ∙ zero-mul (10 ^ length ds) in
    let rest = zeros_value ds (λ k below. h (suc k) (omega arith)) in
    omega arith

last_are_zeros : (ds : List ℕ) (k : ℕ) → k < length (drop (length ds - suffix_len is_zero ds) ds) → get_or (drop (length ds - suffix_len is_zero ds) ds) k 0 ≡ 48
last_are_zeros ds k below =
    let few = suffix_len-le-length is_zero ds in
    let long = length-drop (length ds - suffix_len is_zero ds) ds in
    let place : ℕ = length ds - 1 - (length ds - suffix_len is_zero ds + k) in
    let inside : place < suffix_len is_zero ds = omega arith in
    let passes : is_zero (get_or (reverse ds) place 0) ≡ true = prefix_len_passes is_zero (reverse ds) place 0 inside in
    let turned : get_or (reverse ds) place 0 ≡ get_or ds (length ds - 1 - place) 0 = get_or-reverse ds place 0 (omega arith) in
    let same : length ds - 1 - place ≡ length ds - suffix_len is_zero ds + k = omega arith in
    get_or-drop (length ds - suffix_len is_zero ds) ds k 0 ∙ ap (λ i. get_or ds i 0) (sym same) ∙ sym turned ∙ eqb-true (get_or (reverse ds) place 0) 48 passes

pub trimmed_value : (ds : List ℕ) → digits_value (without_last_zeros ds) * 10 ^ (length ds - length (without_last_zeros ds)) ≡ digits_value ds
trimmed_value ds =
    let n : ℕ = length ds - suffix_len is_zero ds in
    let whole : take n ds ++ drop n ds ≡ ds = take-append-drop n ds in
    let value = digits_value-append (take n ds) (drop n ds) in
    let none = zeros_value (drop n ds) (last_are_zeros ds) in
    let long : length (drop n ds) ≡ length ds - n = length-drop n ds in
    let kept : length (take n ds) ≡ n = length-take-le n ds (omega arith) in
    let power : digits_value (take n ds) * 10 ^ (length ds - length (take n ds)) ≡ digits_value (take n ds) * 10 ^ length (drop n ds) = ap (λ k. digits_value (take n ds) * 10 ^ k) (omega arith) in
    let joined : digits_value (take n ds ++ drop n ds) ≡ digits_value ds = ap digits_value whole in
    omega arith

pub trimmed_digits : (ds : List ℕ) → list_all is_digit ds ≡ true → list_all is_digit (without_last_zeros ds) ≡ true
trimmed_digits ds h =
    let n : ℕ = length ds - suffix_len is_zero ds in
    let both : (list_all is_digit (take n ds) && list_all is_digit (drop n ds)) ≡ true = sym (list_all-append is_digit (take n ds) (drop n ds)) ∙ ap (list_all is_digit) (take-append-drop n ds) ∙ h in
    (and_parts (list_all is_digit (take n ds)) (list_all is_digit (drop n ds)) both).0

pub trimmed_length : (ds : List ℕ) → length (without_last_zeros ds) ≤ length ds
trimmed_length ds = omega (arith, length-take (length ds - suffix_len is_zero ds) ds)

pub digit_is : (x : ℕ) → is_digit (48 + x % 10) ≡ true
digit_is x = and_from (nat_le 48 (48 + x % 10)) (nat_le (48 + x % 10) 57) (le-leb 48 (48 + x % 10) (omega arith)) (le-leb (48 + x % 10) 57 (omega arith))

pub six_digits : (u : ℕ) → list_all is_digit (six_decimals u) ≡ true
six_digits u =
    rw (digit_is (u / 100000), digit_is (u / 10000), digit_is (u / 1000), digit_is (u / 100), digit_is (u / 10), digit_is u) refl

pub six_value : (u : ℕ) → digits_value (six_decimals u) ≡ u % 1000000
six_value u = omega arith

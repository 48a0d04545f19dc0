-- The parts of a number's text are digits.
use Rattle.std.proofs.Common.{◌≡◌, ℕ, ◌+◌, inl, inr, Bool, true, false, not, cond, ◌||◌, List, [], ◌∷◌, ◌++◌, length, eqb, nat_le, ap, refl, ◌∙◌, arith}
use Rattle.std.specs.List.{list_all, list_any, position_or_len, after_first}
use Rattle.std.proofs.lemmas.List.{drop_all}
use Rattle.std.proofs.lemmas.List.Folds.{list_all-append}
use Rattle.std.proofs.lemmas.Bool.{and_parts, and_from, or_parts, or_cases, not-true}
use Rattle.adx_units.specs.Number.{is_digit, is_digits, is_whole, is_decimal, is_number, is_point, is_exponent_mark, whole_digits, fraction_digits, decimal_part, exponent_part, without_sign, begins_with}

pub place_none : (p : ℕ → Bool) (xs : List ℕ) → list_any p xs ≡ false → position_or_len p xs ≡ length xs
place_none p [] h = refl
place_none p (x ∷ xs) h =
    let both = or_parts (p x) (list_any p xs) h in
    let here : position_or_len p (x ∷ xs) ≡ 1 + position_or_len p xs = ap (λ b. cond (not b) (1 + position_or_len p xs) 0) both.0 in
    let rest = place_none p xs both.1 in
    omega arith

pub after_none : (p : ℕ → Bool) (xs : List ℕ) → list_any p xs ≡ false → after_first p xs ≡ []
after_none p xs h =
    let place = place_none p xs h in
    drop_all (position_or_len p xs + 1) xs (omega arith)

digits_are : (ds : List ℕ) → is_digits ds ≡ true → list_all is_digit ds ≡ true
digits_are ds h = (and_parts (nat_le 1 (length ds)) (list_all is_digit ds) h).1

pub number_digits : (t : List ℕ) → is_number t ≡ true → list_all is_digit (whole_digits t ++ fraction_digits t) ≡ true
number_digits t h =
    let decimal = (and_parts (is_decimal (decimal_part t)) (not (list_any is_exponent_mark t) || is_digits (without_sign (exponent_part t))) h).0 in
    let parts = and_parts (is_whole (whole_digits t)) (not (list_any is_point (decimal_part t)) || is_digits (fraction_digits t)) decimal in
    let whole = (and_parts (is_digits (whole_digits t)) (eqb (length (whole_digits t)) 1 || not (begins_with 48 (whole_digits t))) parts.0).0 in
    let fraction : list_all is_digit (fraction_digits t) ≡ true = elim (or_cases (not (list_any is_point (decimal_part t))) (is_digits (fraction_digits t)) parts.1) [
      | inl none ↦ ap (list_all is_digit) (after_none is_point (decimal_part t) (not-true (list_any is_point (decimal_part t)) none))
      | inr some ↦ digits_are (fraction_digits t) some
    ] in
    list_all-append is_digit (whole_digits t) (fraction_digits t) ∙ and_from (list_all is_digit (whole_digits t)) (list_all is_digit (fraction_digits t)) (digits_are (whole_digits t) whole) fraction

-- A number's text byte by byte is a number's text part by part.
use Rattle.std.proofs.Common.{◌≡◌, ℕ, suc, ◌+◌, List, [], ◌∷◌, length, take, drop, Bool, true, false, cond, not, ◌&&◌, ◌||◌, Option, Some, None, refl, sym, ap, ap₂, ◌∙◌, arith, eqb, leb}
use Rattle.std.proofs.lemmas.Bool.{cond_both, le-leb, ne_eqb, eqb-true}
use Rattle.std.proofs.lemmas.Bool.Decides.{nat_tests}
use Rattle.std.specs.List.{list_all, list_any, before_first, after_first, position_or_len}
use Rattle.adx_units.specs.Number.{is_digit, is_digits, is_whole, is_point, is_decimal, is_number, is_exponent_mark, without_minus, without_sign}
use Rattle.adx_json.specs.Scan.{accepts}
use Rattle.adx_json.specs.declared.number.Numeral.{Numeral}
use Rattle.adx_json.specs.declared.number.Numeral.TheVariants.{Start, Minus, Zero, Whole, Point, Fraction, Mark, Sign, Exponent}

abbrev pub from : Option Numeral → List ℕ → Bool
from o bs = elim o [ Some m ↦ accepts m bs | None ↦ false ]

-- what comes before and after the first byte of a kind, by recursion
abbrev front : (ℕ → Bool) → List ℕ → List ℕ
front p [] = []
front p (b ∷ t) = cond (p b) [] (b ∷ front p t)

abbrev back : (ℕ → Bool) → List ℕ → List ℕ
back p [] = []
back p (b ∷ t) = cond (p b) t (back p t)

front_at : (b : ℕ) (t f : List ℕ) (n : ℕ) (x : Bool) → take n t ≡ f → take (cond (not x) (1 + n) 0) (b ∷ t) ≡ cond x [] (b ∷ f)
front_at b t f n true h = refl
front_at b t f n false h =
    let one : 1 + n ≡ suc n = omega arith in
    ap (λ k. take k (b ∷ t)) one ∙ ap (λ r. b ∷ r) h

back_at : (b : ℕ) (t f : List ℕ) (n : ℕ) (x : Bool) → drop (n + 1) t ≡ f → drop (cond (not x) (1 + n) 0 + 1) (b ∷ t) ≡ cond x t f
back_at b t f n true h = refl
back_at b t f n false h =
    let one : 1 + n + 1 ≡ suc (n + 1) = omega arith in
    ap (λ k. drop k (b ∷ t)) one ∙ h

front-is : (p : ℕ → Bool) (t : List ℕ) → before_first p t ≡ front p t
front-is p [] = refl
front-is p (b ∷ t) = front_at b t (front p t) (position_or_len p t) (p b) (front-is p t)

back-is : (p : ℕ → Bool) (t : List ℕ) → after_first p t ≡ back p t
back-is p [] = refl
back-is p (b ∷ t) = back_at b t (back p t) (position_or_len p t) (p b) (back-is p t)

-- the exponent, if there is one
abbrev exponent : List ℕ → Bool
exponent t = not (list_any is_exponent_mark t) || is_digits (without_sign (back is_exponent_mark t))

abbrev fraction : List ℕ → Bool
fraction d = not (list_any is_point d) || is_digits (back is_point d)

abbrev decimal : List ℕ → Bool
decimal d = is_whole (front is_point d) && fraction d

abbrev behind_zero : List ℕ → Bool
behind_zero [] = true
behind_zero (b ∷ d) = is_point b && is_digits d

-- what may still come, by how far the number has come
abbrev form : Numeral → List ℕ → Bool
form Start t = decimal (without_minus (front is_exponent_mark t)) && exponent t
form Minus t = decimal (front is_exponent_mark t) && exponent t
form Zero t = behind_zero (front is_exponent_mark t) && exponent t
form Whole t = (list_all is_digit (front is_point (front is_exponent_mark t)) && fraction (front is_exponent_mark t)) && exponent t
form Point t = is_digits (front is_exponent_mark t) && exponent t
form Fraction t = list_all is_digit (front is_exponent_mark t) && exponent t
form Mark t = is_digits (without_sign t)
form Sign t = is_digits t
form Exponent t = list_all is_digit t

-- kinds of bytes exclude one another
digit_no_exponent : (b : ℕ) → is_digit b ≡ true → is_exponent_mark b ≡ false
digit_no_exponent b h = grind (arith, nat_tests)

digit_no_point : (b : ℕ) → is_digit b ≡ true → is_point b ≡ false
digit_no_point b h = grind (arith, nat_tests)

point_no_exponent : (b : ℕ) → eqb b 46 ≡ true → is_exponent_mark b ≡ false
point_no_exponent b h = grind (arith, nat_tests)

sign_swap : (b : ℕ) (x : Bool) → (eqb b 43 || eqb b 45) ≡ x → (eqb b 45 || eqb b 43) ≡ x
sign_swap b x h = grind (arith, nat_tests)

-- digits from the first one on
digits_cons : (b : ℕ) (t : List ℕ) (x : Bool) → is_digit b ≡ x → is_digits (b ∷ t) ≡ (x && list_all is_digit t)
digits_cons b t x e =
    let some : leb 1 (suc (length t)) ≡ true = le-leb 1 (suc (length t)) (omega arith) in
    rw (some, e) refl

exponent_form : (t : List ℕ) → accepts Exponent t ≡ form Exponent t
exponent_form [] = refl
exponent_form (b ∷ t) =
    cond_both (is_digit b) _ _ (λ o. from o t ≡ form Exponent (b ∷ t))
    (λ e. exponent_form t ∙ sym (rw e refl))
    (λ e. sym (rw e refl))

sign_form : (t : List ℕ) → accepts Sign t ≡ form Sign t
sign_form [] = refl
sign_form (b ∷ t) =
    cond_both (is_digit b) _ _ (λ o. from o t ≡ form Sign (b ∷ t))
    (λ e. exponent_form t ∙ sym (digits_cons b t true e))
    (λ e. sym (digits_cons b t false e))

mark_form : (t : List ℕ) → accepts Mark t ≡ form Mark t
mark_form [] = refl
mark_form (b ∷ t) =
    cond_both (eqb b 43 || eqb b 45) _ _ (λ o. from o t ≡ form Mark (b ∷ t))
    (λ s. let m = sign_swap b true s in sign_form t ∙ sym (rw m refl))
    (λ s.
    let m = sign_swap b false s in
    let whole : form Mark (b ∷ t) ≡ is_digits (b ∷ t) = rw m refl in
    cond_both (is_digit b) _ _ (λ o. from o t ≡ form Mark (b ∷ t))
    (λ e. exponent_form t ∙ sym (whole ∙ digits_cons b t true e))
    (λ e. sym (whole ∙ digits_cons b t false e)))

fraction_form : (t : List ℕ) → accepts Fraction t ≡ form Fraction t
fraction_form [] = refl
fraction_form (b ∷ t) =
    cond_both (is_digit b) _ _ (λ o. from o t ≡ form Fraction (b ∷ t))
    (λ d. let e = digit_no_exponent b d in fraction_form t ∙ sym (rw (e, d) refl))
    (λ d. cond_both (is_exponent_mark b) _ _ (λ o. from o t ≡ form Fraction (b ∷ t))
    (λ e. mark_form t ∙ sym (rw e refl))
    (λ e. sym (rw (e, d) refl)))

point_form : (t : List ℕ) → accepts Point t ≡ form Point t
point_form [] = refl
point_form (b ∷ t) =
    cond_both (is_digit b) _ _ (λ o. from o t ≡ form Point (b ∷ t))
    (λ d.
    let e = digit_no_exponent b d in
    let whole : form Point (b ∷ t) ≡ (is_digits (b ∷ front is_exponent_mark t) && exponent t) = rw e refl in
    fraction_form t ∙ sym (whole ∙ ap (λ x. x && exponent t) (digits_cons b (front is_exponent_mark t) true d)))
    (λ d. no_point b t d (is_exponent_mark b) refl)
  where
    no_point : (b : ℕ) (t : List ℕ) → is_digit b ≡ false → (x : Bool) → is_exponent_mark b ≡ x → false ≡ form Point (b ∷ t)
    no_point b t d true e = sym (rw e refl)
    no_point b t d false e =
        let whole : form Point (b ∷ t) ≡ (is_digits (b ∷ front is_exponent_mark t) && exponent t) = rw e refl in
        sym (whole ∙ ap (λ x. x && exponent t) (digits_cons b (front is_exponent_mark t) false d))

zero_form : (t : List ℕ) → accepts Zero t ≡ form Zero t
zero_form [] = refl
zero_form (b ∷ t) =
    cond_both (eqb b 46) _ _ (λ o. from o t ≡ form Zero (b ∷ t))
    (λ p. let e = point_no_exponent b p in point_form t ∙ sym (rw (e, p) refl))
    (λ p. cond_both (is_exponent_mark b) _ _ (λ o. from o t ≡ form Zero (b ∷ t))
    (λ e. mark_form t ∙ sym (rw e refl))
    (λ e. sym (rw (e, p) refl)))

whole_form : (t : List ℕ) → accepts Whole t ≡ form Whole t
whole_form [] = refl
whole_form (b ∷ t) =
    cond_both (is_digit b) _ _ (λ o. from o t ≡ form Whole (b ∷ t))
    (λ d.
    let e = digit_no_exponent b d in
    let p = digit_no_point b d in
    whole_form t ∙ sym (rw (e, p, d) refl))
    (λ d. cond_both (eqb b 46) _ _ (λ o. from o t ≡ form Whole (b ∷ t))
    (λ p. let e = point_no_exponent b p in point_form t ∙ sym (rw (e, p) refl))
    (λ p. cond_both (is_exponent_mark b) _ _ (λ o. from o t ≡ form Whole (b ∷ t))
    (λ e. mark_form t ∙ sym (rw e refl))
    (λ e. sym (rw (e, p, d) refl))))

-- a decimal from its first byte on
begins_zero : (d : List ℕ) → decimal (48 ∷ d) ≡ behind_zero d
begins_zero [] = refl
begins_zero (c ∷ d) = at c d (is_point c) refl
  where
    at : (c : ℕ) (d : List ℕ) (x : Bool) → is_point c ≡ x → decimal (48 ∷ c ∷ d) ≡ behind_zero (c ∷ d)
    at c d true e = rw e refl
    at c d false e =
        let two : eqb (suc (suc (length (front is_point d)))) 1 ≡ false = ne_eqb _ 1 (λ h. omega arith) in
        rw e (two_digits c d two)
      where
        two_digits : (c : ℕ) (d : List ℕ) → eqb (suc (suc (length (front is_point d)))) 1 ≡ false → (is_whole (48 ∷ c ∷ front is_point d) && fraction d) ≡ false
        two_digits c d two = no_whole (is_digits (48 ∷ c ∷ front is_point d)) (eqb (suc (suc (length (front is_point d)))) 1) (fraction d) two
          where
            no_whole : (x y z : Bool) → y ≡ false → ((x && (y || false)) && z) ≡ false
            no_whole true y z h = rw h refl
            no_whole false y z h = refl

begins_digit : (b : ℕ) (d : List ℕ) → is_digit b ≡ true → eqb b 48 ≡ false → decimal (b ∷ d) ≡ (list_all is_digit (front is_point d) && fraction d)
begins_digit b d h n =
    let p = digit_no_point b h in
    let first : is_digits (b ∷ front is_point d) ≡ list_all is_digit (front is_point d) = digits_cons b (front is_point d) true h in
    rw p (rw n (ap (λ x. x && fraction d) (whole_is _ _ (eqb (suc (length (front is_point d))) 1) first)))
  where
    whole_is : (x y z : Bool) → x ≡ y → (x && (z || true)) ≡ y
    whole_is x true z e = rw e (right z)
      where
        right : (z : Bool) → (z || true) ≡ true
        right true = refl
        right false = refl
    whole_is x false z e = rw e refl

begins_other : (b : ℕ) (d : List ℕ) → is_digit b ≡ false → decimal (b ∷ d) ≡ false
begins_other b d h = at (is_point b) refl
  where
    at : (x : Bool) → is_point b ≡ x → decimal (b ∷ d) ≡ false
    at true e = rw e refl
    at false e =
        let first : is_digits (b ∷ front is_point d) ≡ false = digits_cons b (front is_point d) false h in
        rw e (ap (λ x. (x && (eqb (suc (length (front is_point d))) 1 || not (eqb b 48))) && fraction d) first)

minus_at : (b : ℕ) (t : List ℕ) (x : Bool) → is_exponent_mark b ≡ x → is_digit b ≡ false → form Minus (b ∷ t) ≡ false
minus_at b t true e h = rw e refl
minus_at b t false e h =
    let whole : form Minus (b ∷ t) ≡ (decimal (b ∷ front is_exponent_mark t) && exponent t) = rw e refl in
    whole ∙ ap (λ x. x && exponent t) (begins_other b (front is_exponent_mark t) h)

zero_digit : (b : ℕ) → eqb b 48 ≡ true → is_exponent_mark b ≡ false
zero_digit b h = grind (arith, nat_tests)

minus_form : (t : List ℕ) → accepts Minus t ≡ form Minus t
minus_form [] = refl
minus_form (b ∷ t) =
    cond_both (eqb b 48) _ _ (λ o. from o t ≡ form Minus (b ∷ t))
    (λ z.
    let e = zero_digit b z in
    let whole : form Minus (b ∷ t) ≡ (decimal (b ∷ front is_exponent_mark t) && exponent t) = rw e refl in
    let same : decimal (b ∷ front is_exponent_mark t) ≡ behind_zero (front is_exponent_mark t) = ap (λ c. decimal (c ∷ front is_exponent_mark t)) (eqb-true b 48 z) ∙ begins_zero (front is_exponent_mark t) in
    zero_form t ∙ sym (whole ∙ ap (λ x. x && exponent t) same))
    (λ z. cond_both (is_digit b) _ _ (λ o. from o t ≡ form Minus (b ∷ t))
    (λ d.
    let e = digit_no_exponent b d in
    let whole : form Minus (b ∷ t) ≡ (decimal (b ∷ front is_exponent_mark t) && exponent t) = rw e refl in
    whole_form t ∙ sym (whole ∙ ap (λ x. x && exponent t) (begins_digit b (front is_exponent_mark t) d z)))
    (λ d. sym (minus_at b t (is_exponent_mark b) refl d)))

minus_byte : (b : ℕ) → eqb b 45 ≡ true → is_exponent_mark b ≡ false
minus_byte b h = grind (arith, nat_tests)

start_at : (b : ℕ) (t : List ℕ) (x : Bool) → is_exponent_mark b ≡ x → eqb b 45 ≡ false → form Start (b ∷ t) ≡ form Minus (b ∷ t)
start_at b t true e n = rw e refl
start_at b t false e n = rw (e, n) refl

start_form : (t : List ℕ) → accepts Start t ≡ form Start t
start_form [] = refl
start_form (b ∷ t) =
    cond_both (eqb b 45) _ _ (λ o. from o t ≡ form Start (b ∷ t))
    (λ m. let e = minus_byte b m in minus_form t ∙ sym (rw (e, m) refl))
    (λ m. minus_form (b ∷ t) ∙ sym (start_at b t (is_exponent_mark b) refl m))

number_parts : (t f k : List ℕ) → before_first is_exponent_mark t ≡ f → after_first is_exponent_mark t ≡ k → is_number t ≡ (is_decimal (without_minus f) && (not (list_any is_exponent_mark t) || is_digits (without_sign k)))
number_parts t f k e h = ap₂ (λ (x y : List ℕ). is_decimal (without_minus x) && (not (list_any is_exponent_mark t) || is_digits (without_sign y))) e h

decimal_is : (d : List ℕ) → is_decimal d ≡ decimal d
decimal_is d = ap₂ (λ (x y : List ℕ). is_whole x && (not (list_any is_point d) || is_digits y)) (front-is is_point d) (back-is is_point d)

-- a text is a number's exactly where it is one byte by byte
pub number_is : (t : List ℕ) → accepts Start t ≡ is_number t
number_is t =
    start_form t ∙ sym (number_parts t _ _ (front-is is_exponent_mark t) (back-is is_exponent_mark t) ∙ ap (λ x. x && exponent t) (decimal_is (without_minus (front is_exponent_mark t))))

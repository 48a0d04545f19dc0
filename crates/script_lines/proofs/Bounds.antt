-- Amounts and numbers that values give keep within their bounds.
use Rattle.std.proofs.Common.{◌≡◌, ℕ, ◌+◌, ◌*◌, ◌/◌, ◌%◌, ◌^◌, ◌<◌, ◌≤◌, List, length, Bool, true, false, not, cond, ◌&&◌, ◌||◌, ◌==◌, nat_le, nat_lt, bytes_eq, eqb, min, Option, Some, None, Ok, Err, is_ok, is_some, refl, sym, ap, ap₂, ◌∙◌, subst, arith}
use Rattle.std.specs.List.{position_or_len}
use Rattle.std.specs.Option.{unwrap_or}
use Rattle.std.proofs.Math.Nat.{one-le-pow}
use Rattle.std.proofs.lemmas.Bool.{ltb-true, ltb-false, leb-true, le-leb, eqb-false}
use Rattle.adx_json.specs.Tree.{Tree}
use Rattle.adx_units.specs.Number.{digits_value, is_number, is_whole, has_minus, numerator, denominator, fraction_digits, lowered}
use Rattle.adx_units.specs.Money.{units, price_units, floor_units}
use Rattle.adx_units.specs.declared.units.Units.{Units}
use Rattle.adx_units.specs.declared.price.PriceFault.{PriceFault}
use Rattle.adx_units.specs.declared.price.TheConstants.{PRICE_LIMIT, BUDGET_LIMIT}
use Rattle.adx_units.proofs.Amounts.{Counts, zero_is, passes_is}
use Rattle.adx_json.specs.Values.{number_in, text_in, or_zero, whole_by, whole_or_zero}
use Rattle.rtb_request.specs.Amounts.{floor_by, floor_in, units_or_zero}
use Rattle.rtb_response.specs.Prices.{price_by, price_in, is_in_range}
use Rattle.deal_floor.specs.Forms.{budget_by, budget_in, whole_or, place_by_name, place_in}

pub or_false : (a b : Bool) → (a || b) ≡ false → (a ≡ false) × (b ≡ false)
or_false false b h = (refl, h)
or_false true b h = cc

pub not_false : (a : Bool) → not a ≡ false → a ≡ true
not_false true h = refl
not_false false h = cc

pub not_zero : (n : ℕ) → (n == 0) ≡ false → 1 ≤ n
not_zero n h = let other = eqb-false n 0 h in omega arith

-- a floor
floor_chain : (p q r : Bool) (a b c : PriceFault) (u : Units) → (r ≡ false → u.0 ≤ PRICE_LIMIT)
    → (units_or_zero (cond (not p) (Err a) (cond q (Err b) (cond r (Err c) (Ok u))))).0 ≤ PRICE_LIMIT
floor_chain false q r a b c u few = omega arith
floor_chain true true r a b c u few = omega arith
floor_chain true false true a b c u few = omega arith
floor_chain true false false a b c u few = few refl

floor_text_low : (o : Option (List ℕ)) → (units_or_zero (floor_by o)).0 ≤ PRICE_LIMIT
floor_text_low None = omega arith
floor_text_low (Some n) = floor_chain (is_number n) (has_minus n && not (numerator n == 0)) (nat_lt (10 ^ 12) (floor_units n)) _ _ _ (units (floor_units n)) (λ h. ltb-false (10 ^ 12) (floor_units n) h)

pub floor_low : (v : Option Tree) → (units_or_zero (floor_in v)).0 ≤ PRICE_LIMIT
floor_low None = omega arith
floor_low (Some t) = floor_text_low (number_in (Some t))

-- a price
price_chain : (p q r : Bool) (a b c : PriceFault) (u : Units) → (q ≡ false → 1 ≤ u.0) → (r ≡ false → u.0 ≤ PRICE_LIMIT)
    → is_in_range (cond (not p) (Err a) (cond q (Err b) (cond r (Err c) (Ok u)))) ≡ true
price_chain false q r a b c u some few = refl
price_chain true true r a b c u some few = refl
price_chain true false true a b c u some few = refl
price_chain true false false a b c u some few = ap₂ (λ x y. x && y) (le-leb 1 u.0 (some refl)) (le-leb u.0 PRICE_LIMIT (few refl))

price_text_ranges : (o : Option (List ℕ)) → is_in_range (price_by o) ≡ true
price_text_ranges None = refl
price_text_ranges (Some n) =
    price_chain (is_number n) (has_minus n || price_units n == 0) (nat_lt (10 ^ 12) (price_units n)) _ _ _ (units (price_units n))
    (λ h. not_zero (price_units n) (or_false (has_minus n) (price_units n == 0) h).1)
    (λ h. ltb-false (10 ^ 12) (price_units n) h)

pub price_ranges : (v : Option Tree) → is_in_range (price_in v) ≡ true
price_ranges v = price_text_ranges (number_in v)

-- a budget
abbrev pub IsBudget : Units → Type 0
IsBudget u = (1 ≤ u.0) × (u.0 ≤ BUDGET_LIMIT)

budget_chain : (p q r s : Bool) (a b c d : PriceFault) (u : Units) → (q ≡ false → r ≡ false → s ≡ false → IsBudget u)
    → is_ok (cond (not p) (Err a) (cond q (Err b) (cond r (Err c) (cond s (Err d) (Ok u))))) ≡ true
    → IsBudget (units_or_zero (cond (not p) (Err a) (cond q (Err b) (cond r (Err c) (cond s (Err d) (Ok u))))))
budget_chain false q r s a b c d u is h = absurd (cc h)
budget_chain true true r s a b c d u is h = absurd (cc h)
budget_chain true false true s a b c d u is h = absurd (cc h)
budget_chain true false false true a b c d u is h = absurd (cc h)
budget_chain true false false false a b c d u is h = is refl refl refl

budget_units : (t : List ℕ) → (numerator t == 0) ≡ false → nat_lt (10 ^ 15 * denominator t) (numerator t * 10 ^ 9) ≡ false
    → not (numerator t * 10 ^ 9 % denominator t == 0) ≡ false → IsBudget (units (numerator t * 10 ^ 9 / denominator t))
budget_units t some few whole =
    let n = numerator t * 10 ^ 9 in
    let d = denominator t in
    let cap = 10 ^ 16 in
    let u = min (n / d) cap in
    let rest = not (eqb (n % d) 0) in
    let counts : Counts n d u cap rest = record { positive = one-le-pow (length (fraction_digits t) + lowered t) 10 (omega arith); units = refl; part = refl } in
    let zero : (eqb u 0 && not rest) ≡ false = zero_is (numerator t) (10 ^ 9) n d u cap rest (omega arith) (omega arith) refl counts ∙ some in
    let low : eqb u 0 ≡ false = sym (and_true (eqb u 0)) ∙ sym (ap (λ b. eqb u 0 && not b) whole) ∙ zero in
    let high = or_false (nat_lt (10 ^ 15) u) (eqb u (10 ^ 15) && rest) (passes_is n d u cap (10 ^ 15) rest (omega arith) counts ∙ few) in
    bounded (n / d) u cap (10 ^ 15) refl (omega arith) (not_zero u low) (ltb-false (10 ^ 15) u high.0)
  where
    bounded : (q u cap limit : ℕ) → u ≡ min q cap → limit < cap → 1 ≤ u → u ≤ limit → (1 ≤ q) × (q ≤ limit)
    bounded q u cap limit is room some low = (omega (arith, is, room, some, low), omega (arith, is, room, some, low))

    and_true : (a : Bool) → (a && true) ≡ a
    and_true true = refl
    and_true false = refl

pub budget_text_is : (o : Option (List ℕ)) → is_ok (budget_by o) ≡ true → IsBudget (units_or_zero (budget_by o))
budget_text_is None h = absurd (cc h)
budget_text_is (Some n) h =
    budget_chain (is_number n) (has_minus n || numerator n == 0) (nat_lt (10 ^ 15 * denominator n) (numerator n * 10 ^ 9)) (not (numerator n * 10 ^ 9 % denominator n == 0)) _ _ _ _ (units (numerator n * 10 ^ 9 / denominator n))
    (λ q r s. budget_units n (or_false (has_minus n) (numerator n == 0) q).1 r s) h

pub budget_is : (v : Option Tree) → is_ok (budget_in v) ≡ true → IsBudget (units_or_zero (budget_in v))
budget_is v h = budget_text_is (number_in v) h

-- whole numbers
whole_chain : (b : Bool) (n most : ℕ) → (b ≡ true → n ≤ most) → or_zero (cond b (Some n) None) ≤ most
whole_chain true n most few = few refl
whole_chain false n most few = omega arith

or_chain : (b : Bool) (n most absent : ℕ) → absent ≤ most → (b ≡ true → n ≤ most) → unwrap_or (cond b (Some n) None) absent ≤ most
or_chain true n most absent low few = few refl
or_chain false n most absent low few = low

and_second : (a b : Bool) → (a && b) ≡ true → b ≡ true
and_second true b h = h
and_second false b h = cc

digits_low : (most : ℕ) (ds : List ℕ) → (is_whole ds && nat_le (digits_value ds) most) ≡ true → digits_value ds ≤ most
digits_low most ds h = leb-true (digits_value ds) most (and_second (is_whole ds) (nat_le (digits_value ds) most) h)

whole_text_low : (most : ℕ) (o : Option (List ℕ)) → or_zero (whole_by most o) ≤ most
whole_text_low most None = omega arith
whole_text_low most (Some ds) = whole_chain (is_whole ds && nat_le (digits_value ds) most) (digits_value ds) most (digits_low most ds)

pub whole_low : (most : ℕ) (v : Option Tree) → whole_or_zero most v ≤ most
whole_low most v = whole_text_low most (number_in v)

whole_text_or_low : (absent most : ℕ) (o : Option (List ℕ)) → absent ≤ most → unwrap_or (whole_by most o) absent ≤ most
whole_text_or_low absent most None low = low
whole_text_or_low absent most (Some ds) low = or_chain (is_whole ds && nat_le (digits_value ds) most) (digits_value ds) most absent low (digits_low most ds)

pub whole_or_low : (absent most : ℕ) (v : Option Tree) → absent ≤ most → whole_or absent most v ≤ most
whole_or_low absent most v low = whole_text_or_low absent most (number_in v) low

whole_some : (b : Bool) (n m most : ℕ) → (b ≡ true → n ≤ most) → cond b (Some n) None ≡ Some m → m ≤ most
whole_some true n m most few h = let same : n ≡ m = cc h in subst (λ k. k ≤ most) same (few refl)
whole_some false n m most few h = absurd (cc h)

pub whole_by_low : (most : ℕ) (o : Option (List ℕ)) (m : ℕ) → whole_by most o ≡ Some m → m ≤ most
whole_by_low most None m h = absurd (cc h)
whole_by_low most (Some ds) m h = whole_some (is_whole ds && nat_le (digits_value ds) most) (digits_value ds) m most (digits_low most ds) h

-- a place among names is one of them
place_found : (b : Bool) (k n : ℕ) → (b ≡ true → k < n) → is_some (cond b (Some k) None) ≡ true → or_zero (cond b (Some k) None) < n
place_found true k n low h = low refl
place_found false k n low h = absurd (cc h)

place_text_found : (names : List (List ℕ)) (o : Option (List ℕ)) → is_some (place_by_name names o) ≡ true → or_zero (place_by_name names o) < length names
place_text_found names None h = absurd (cc h)
place_text_found names (Some name) h =
    let k = position_or_len (λ n. bytes_eq n name) names in
    place_found (nat_lt k (length names)) k (length names) (λ e. ltb-true k (length names) e) h

pub place_low : (names : List (List ℕ)) (v : Option Tree) → is_some (place_in names v) ≡ true → or_zero (place_in names v) < length names
place_low names v h = place_text_found names (text_in v) h

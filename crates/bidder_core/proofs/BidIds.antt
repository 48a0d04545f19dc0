-- The ids that a bidder makes: they have no slash, and what is written is read back.
use Rattle.std.proofs.Common.{◌≡◌, ℕ, ◌+◌, ◌<◌, ◌≤◌, List, [], ◌∷◌, ◌++◌, ◌&&◌, ◌||◌, ◌==◌, not, cond, nat_lt, nat_le, ◌^◌, length, get_or, drop, decimal, Bool, true, false, refl, sym, ap, ◌∙◌, arith, append_assoc, length-append}
use Rattle.std.specs.List.{list_any, list_all, before_first, after_first, position_or_len}
use Rattle.std.proofs.lemmas.Bool.{and_parts, and_from, or_from, or_right, ne_eqb, eqb-true, leb-true, lt-ltb}
use Rattle.std.proofs.lemmas.List.{take_at, drop_at}
use Rattle.std.proofs.lemmas.List.Folds.{list_any-append}
use Rattle.std.proofs.lemmas.List.Sums.{split_at_first, passes_at_first}
use Rattle.adx_units.specs.Number.{is_digit, is_digits, is_whole, begins_with, digits_value}
use Rattle.bidder_core.specs.BidIds.{bid_id, is_below, is_dash, is_made, price_in}
use Rattle.formats.proofs.Decimals.{decimal_is_digits, decimal_is_whole, decimal_value}
use Rattle.bidder_core.specs.LedgerState.{has_slash}
use Rattle.rtb_request.specs.declared.bid_request.TheConstants.{MOST_IMPS}

digit_apart : (b : ℕ) → is_digit b ≡ true → (b == 47) ≡ false
digit_apart b h =
    let low : 48 ≤ b = leb-true 48 b (and_parts (nat_le 48 b) (nat_le b 57) h).0 in
    ne_eqb b 47 (λ e. absurd (omega arith))

digits_apart : (ds : List ℕ) → list_all is_digit ds ≡ true → has_slash ds ≡ false
digits_apart [] h = refl
digits_apart (d ∷ ds) h =
    let both = and_parts (is_digit d) (list_all is_digit ds) h in
    or_from (d == 47) (has_slash ds) (digit_apart d both.0) (digits_apart ds both.1)

below_apart : (bound : ℕ) (text : List ℕ) → is_below bound text ≡ true → has_slash text ≡ false
below_apart bound text h =
    let whole = (and_parts (is_whole text) (nat_lt (digits_value text) bound) h).0 in
    let digits = (and_parts (is_digits text) (length text == 1 || not (begins_with 48 text)) whole).0 in
    digits_apart text (and_parts (nat_le 1 (length text)) (list_all is_digit text) digits).1

passes_within : (p : ℕ → Bool) (xs : List ℕ) → list_any p xs ≡ true → position_or_len p xs < length xs
passes_within p [] h = cc
passes_within p (x ∷ xs) h = by (p x) refl h (passes_within p xs)
  where
    by : (b : Bool) → p x ≡ b → (b || list_any p xs) ≡ true → (list_any p xs ≡ true → position_or_len p xs < length xs)
        → position_or_len p (x ∷ xs) < length (x ∷ xs)
    by true e h rest = omega (arith, ap (λ t. cond (not t) (1 + position_or_len p xs) 0) e)
    by false e h rest = omega (arith, ap (λ t. cond (not t) (1 + position_or_len p xs) 0) e, rest h)

pub made_apart : (prices : ℕ) (id : List ℕ) → is_made prices id ≡ true → has_slash id ≡ false
made_apart prices id h =
    let parts = and_parts (list_any is_dash id) (is_below MOST_IMPS (before_first is_dash id) && is_below prices (after_first is_dash id)) h in
    let both = and_parts (is_below MOST_IMPS (before_first is_dash id)) (is_below prices (after_first is_dash id)) parts.1 in
    let front = before_first is_dash id in
    let back = after_first is_dash id in
    let dash = get_or id (position_or_len is_dash id) 0 in
    let within : position_or_len is_dash id < length id = passes_within is_dash id parts.0 in
    let is : dash ≡ 45 = eqb-true dash 45 (passes_at_first is_dash id 0 within) in
    ap has_slash (split_at_first is_dash id 0 within)
    ∙ list_any-append (λ b. b == 47) front (dash ∷ back)
    ∙ or_from (has_slash front) (has_slash (dash ∷ back)) (below_apart MOST_IMPS front both.0)
    (or_from (dash == 47) (has_slash back) (ne_eqb dash 47 (λ e. absurd (omega arith))) (below_apart prices back both.1))

dash_apart : (b : ℕ) → is_digit b ≡ true → (b == 45) ≡ false
dash_apart b h =
    let low : 48 ≤ b = leb-true 48 b (and_parts (nat_le 48 b) (nat_le b 57) h).0 in
    ne_eqb b 45 (λ e. absurd (omega arith))

-- the first dash stands behind the digits
dash_behind : (ds es : List ℕ) → list_all is_digit ds ≡ true → position_or_len is_dash (ds ++ 45 ∷ es) ≡ length ds
dash_behind [] es h = refl
dash_behind (d ∷ ds) es h =
    let both = and_parts (is_digit d) (list_all is_digit ds) h in
    let rest = dash_behind ds es both.1 in
    omega (arith, rest, ap (λ t. cond (not t) (1 + position_or_len is_dash (ds ++ 45 ∷ es)) 0) (dash_apart d both.0))

has_dash : (ds es : List ℕ) → list_any is_dash (ds ++ 45 ∷ es) ≡ true
has_dash ds es = list_any-append is_dash ds (45 ∷ es) ∙ or_right (list_any is_dash ds) (list_any is_dash (45 ∷ es)) refl

front_is : (ds es : List ℕ) → list_all is_digit ds ≡ true → before_first is_dash (ds ++ 45 ∷ es) ≡ ds
front_is ds es h = take_at ds (45 ∷ es) (position_or_len is_dash (ds ++ 45 ∷ es)) (sym (dash_behind ds es h))

back_is : (ds es : List ℕ) → list_all is_digit ds ≡ true → after_first is_dash (ds ++ 45 ∷ es) ≡ es
back_is ds es h =
    let at : length (ds ++ 45 ∷ []) ≡ position_or_len is_dash (ds ++ 45 ∷ es) + 1 = omega (arith, length-append ds (45 ∷ []), dash_behind ds es h) in
    ap (drop (position_or_len is_dash (ds ++ 45 ∷ es) + 1)) (sym (append_assoc ds (45 ∷ []) es)) ∙ drop_at (ds ++ 45 ∷ []) es (position_or_len is_dash (ds ++ 45 ∷ es) + 1) at

below : (bound n : ℕ) → n < bound → n < 10 ^ 64 → is_below bound (decimal n) ≡ true
below bound n low small =
    and_from (is_whole (decimal n)) (nat_lt (digits_value (decimal n)) bound) (decimal_is_whole n small)
    (ap (λ m. nat_lt m bound) (decimal_value n small) ∙ lt-ltb n bound low)

-- an id that is written is one that the bidder makes
pub bid_id_made : (prices imp price : ℕ) → imp < MOST_IMPS → price < prices → prices < 10 ^ 64 → is_made prices (bid_id imp price) ≡ true
bid_id_made prices imp price few low small =
    let ds = decimal imp in
    let es = decimal price in
    let digits = decimal_is_digits imp (omega arith) in
    and_from (list_any is_dash (bid_id imp price)) (is_below MOST_IMPS (before_first is_dash (bid_id imp price)) && is_below prices (after_first is_dash (bid_id imp price))) (has_dash ds es)
    (and_from (is_below MOST_IMPS (before_first is_dash (bid_id imp price))) (is_below prices (after_first is_dash (bid_id imp price)))
    (ap (is_below MOST_IMPS) (front_is ds es digits) ∙ below MOST_IMPS imp few (omega arith))
    (ap (is_below prices) (back_is ds es digits) ∙ below prices price low (omega arith)))

-- and names its price
pub bid_id_price : (imp price : ℕ) → imp < 10 ^ 64 → price < 10 ^ 64 → price_in (bid_id imp price) ≡ price
bid_id_price imp price few small =
    ap digits_value (back_is (decimal imp) (decimal price) (decimal_is_digits imp few)) ∙ decimal_value price small

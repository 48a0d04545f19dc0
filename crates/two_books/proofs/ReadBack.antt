-- What a bidder reads of its own query, from the ids that it makes and the prices of the day.
use Rattle.std.proofs.Common.{◌≡◌, ⊎_elim, ℕ, suc, ◌+◌, ◌/◌, ◌%◌, ◌^◌, ◌<◌, ◌≤◌, List, [], ◌∷◌, ◌++◌, ◌==◌, ◌||◌, ◌&&◌, not, nat_le, nat_lt, All, length, get_or, decimal, refl, sym, ap, subst, ◌∙◌, arith, Bool, true, false, cond, Ok, append-nil}
use Rattle.std.specs.Str.{IsAscii}
use Rattle.std.specs.List.{list_any, list_all, before_first, after_first, position_or_len}
use Rattle.std.proofs.lemmas.Bool.{and_parts, cond-true, cond-false, eqb-true, or_left, cases_eq, eq-eqb, ne_eqb}
use Rattle.std.proofs.lemmas.Str.{IsUtf8-from_ascii}
use Rattle.std.proofs.lemmas.List.Sums.{split_at_first, passes_at_first}
use Rattle.std.proofs.lemmas.List.Elements.{All-nil, All-cons, All-append}
use Rattle.percent_encoding.proofs.PercentLemmas.{IsByte}
use Rattle.adx_units.specs.Money.{price_text, price_of, units, six_decimals, without_last_zeros}
use Rattle.adx_units.specs.Number.{is_digit, is_digits, is_whole, begins_with, digits_value}
use Rattle.adx_units.specs.declared.price.TheConstants.{PRICE_LIMIT}
use Rattle.adx_units.proofs.Written.{whole_read, point_read}
use Rattle.notice_macros.proofs.PriceTexts.{price_ascii}
use Rattle.rtb_request.specs.declared.bid_request.TheConstants.{MOST_IMPS}
use Rattle.bidder_core.specs.BidIds.{is_below, is_dash, is_made}
use Rattle.bidder_core.specs.declared.price_line.TheConstants.{MOST_PRICES}
use Rattle.two_books.specs.OwnNotices.{QueriesAreReadBack}
use Rattle.two_books.proofs.Queries.{is_id_byte}
use Rattle.two_books.proofs.Told.{query_told}

-- a price is read back
pub price_again : (u : ℕ) → 1 ≤ u → u ≤ PRICE_LIMIT → price_of (price_text u) ≡ Ok (units u)
price_again u some few =
    ⊎_elim
    (λ whole. ap (λ l. price_of (decimal (u / 10 ^ 6) ++ l)) (cond-true (u % 10 ^ 6 == 0) [] (46 ∷ without_last_zeros (six_decimals u)) (eq-eqb (u % 10 ^ 6) 0 whole)) ∙ ap price_of (append-nil (decimal (u / 10 ^ 6))) ∙ whole_read u (omega arith) whole some few)
    (λ part. ap (λ l. price_of (decimal (u / 10 ^ 6) ++ l)) (cond-false (u % 10 ^ 6 == 0) [] (46 ∷ without_last_zeros (six_decimals u)) (ne_eqb (u % 10 ^ 6) 0 part)) ∙ point_read u (omega arith) part some few)
    (cases_eq (u % 10 ^ 6) 0)

ascii_bytes : (t : List ℕ) → IsAscii t → All IsByte t
ascii_bytes [] h = All-nil IsByte
ascii_bytes (b ∷ t) h = let first : b < 128 = h 0 in All-cons IsByte b t (omega arith) (ascii_bytes t (λ i. h (suc i)))

-- an id that the bidder makes is digits and a dash
abbrev pub IsIdByte : ℕ → Type 0
IsIdByte b = is_id_byte b ≡ true

digit_id : (b : ℕ) → is_digit b ≡ true → IsIdByte b
digit_id b h = or_left (is_digit b) (b == 45) h

digits_id : (ds : List ℕ) → list_all is_digit ds ≡ true → All IsIdByte ds
digits_id [] h = All-nil IsIdByte
digits_id (d ∷ ds) h = let both = and_parts (is_digit d) (list_all is_digit ds) h in All-cons IsIdByte d ds (digit_id d both.0) (digits_id ds both.1)

below_id : (bound : ℕ) (text : List ℕ) → is_below bound text ≡ true → All IsIdByte text
below_id bound text h =
    let whole = (and_parts (is_whole text) (nat_lt (digits_value text) bound) h).0 in
    let digits = (and_parts (is_digits text) (length text == 1 || not (begins_with 48 text)) whole).0 in
    digits_id text (and_parts (nat_le 1 (length text)) (list_all is_digit text) digits).1

within : (p : ℕ → Bool) (xs : List ℕ) → list_any p xs ≡ true → position_or_len p xs < length xs
within p [] h = cc
within p (x ∷ xs) h = by (p x) refl h (within p xs)
  where
    by : (b : Bool) → p x ≡ b → (b || list_any p xs) ≡ true → (list_any p xs ≡ true → position_or_len p xs < length xs) → position_or_len p (x ∷ xs) < length (x ∷ xs)
    by true e h rest = omega (arith, ap (λ t. cond (not t) (1 + position_or_len p xs) 0) e)
    by false e h rest = omega (arith, ap (λ t. cond (not t) (1 + position_or_len p xs) 0) e, rest h)

pub made_id : (prices : ℕ) (id : List ℕ) → is_made prices id ≡ true → All IsIdByte id
made_id prices id h =
    let parts = and_parts (list_any is_dash id) (is_below MOST_IMPS (before_first is_dash id) && is_below prices (after_first is_dash id)) h in
    let both = and_parts (is_below MOST_IMPS (before_first is_dash id)) (is_below prices (after_first is_dash id)) parts.1 in
    let front = before_first is_dash id in
    let back = after_first is_dash id in
    let dash = get_or id (position_or_len is_dash id) 0 in
    let inside : position_or_len is_dash id < length id = within is_dash id parts.0 in
    let is : dash ≡ 45 = eqb-true dash 45 (passes_at_first is_dash id 0 inside) in
    let marked : IsIdByte dash = subst IsIdByte (sym is) refl in
    subst (All IsIdByte) (sym (split_at_first is_dash id 0 inside)) (All-append IsIdByte front (dash ∷ back) (below_id MOST_IMPS front both.0) (All-cons IsIdByte dash back marked (below_id prices back both.1)))

pub queries_read : QueriesAreReadBack
queries_read kind auction bid price bytes text some few made paid bounded =
    let ascii = price_ascii price (omega arith) in
    query_told kind auction bid price bytes text some few (made_id MOST_PRICES bid made) (ascii_bytes (price_text price) ascii) (IsUtf8-from_ascii (price_text price) ascii) (price_again price paid bounded)

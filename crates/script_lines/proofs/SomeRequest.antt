-- An object without a fault says a request, or an answer.
use Rattle.std.proofs.Common.{◌≡◌, ◌≤◌, ℕ, List, [], ◌∷◌, ◌++◌, map, length, Bool, true, false, not, cond, ◌&&◌, nat_le, codes, Some, None, refl, sym, ap, ap₂, ◌∙◌, subst, append-nil}
use Rattle.std.proofs.Math.Seq.{append_snoc}
use Rattle.std.proofs.lemmas.Bool.{leb-true}
use Rattle.std.proofs.lemmas.List.{length-map, map-append}
use Rattle.adx_json.specs.Tree.{Tree}
use Rattle.adx_json.specs.Rows.{Says, first_among}
use Rattle.adx_json.specs.Values.{given, given_within, items_in, text_in, text_or_empty, texts_in, is_number_text, whole_or_zero}
use Rattle.adx_json.proofs.Listing.{holds, none_among, none_at, zip_made}
use Rattle.rtb_request.specs.Amounts.{floor_in, seconds_in, units_or_zero}
use Rattle.rtb_request.specs.Deals.{deal_rows, deal_id, is_in_dollars, that_count}
use Rattle.adx_units.specs.Among.{is_among}
use Rattle.rtb_request.specs.Distinct.{all_distinct}
use Rattle.rtb_request.specs.Imps.{imp_rows, imp_id, is_sold}
use Rattle.rtb_request.specs.Requests.{request_fault, request_rows, takes_dollars}
use Rattle.rtb_request.specs.declared.bid_request.BidRequest.{BidRequest}
use Rattle.rtb_request.specs.declared.deal.Deal.{Deal}
use Rattle.rtb_request.specs.declared.fault.RequestFault.TheVariants.{NoImp, TooManyImps, RepeatedImp}
use Rattle.rtb_request.specs.declared.imp.Imp.{Imp}
use Rattle.rtb_request.specs.declared.imp.TheConstants.{MOST_SECONDS as MOST_IMP_SECONDS}
use Rattle.rtb_request.proofs.Distinct.{distinct_more}
use Rattle.rtb_response.specs.Answers.{answer_fault, answer_rows, bid_count, seat_rows}
use Rattle.rtb_response.specs.Bids.{bid_rows, is_whole_bid}
use Rattle.rtb_response.specs.Bodies.{body}
use Rattle.rtb_response.specs.Prices.{price_in}
use Rattle.rtb_response.specs.declared.bid.Bid.{Bid}
use Rattle.rtb_response.specs.declared.bid.TheConstants.{MOST_SECONDS, MOST_BIDS}
use Rattle.rtb_response.specs.declared.bid_answer.BidAnswer.{BidAnswer}
use Rattle.rtb_response.specs.declared.bid_answer.SeatBid.{SeatBid}
use Rattle.rtb_response.specs.declared.fault.AnswerFault.TheVariants.{TooManyBids}
use Rattle.rtb_response.proofs.Counts.{seats_bids}
use Rattle.script_lines.proofs.Bounds.{floor_low, price_ranges, whole_low}

-- a deal
abbrev deal_at : Tree → Deal
deal_at t = record {
  id = text_or_empty (given (codes "id") t);
  floor = units_or_zero (floor_in (given (codes "bidfloor") t));
  fixed = is_number_text (codes "3") (given (codes "at") t);
  wseat = texts_in (given (codes "wseat") t);
  wadomain = texts_in (given (codes "wadomain") t);
  in_range = floor_low (given (codes "bidfloor") t);
}

deal_says : (t : Tree) → Says deal_rows (Some t) (deal_at t)
deal_says t = (refl, (refl, (tt, (refl, (refl, (refl, tt))))))

new_by : (a b : Bool) → (a && not b) ≡ true → b ≡ false
new_by true true h = absurd (cc h)
new_by true false h = refl
new_by false b h = absurd (cc h)

-- a deal counts, or doesn't
counted_step : (before : List (List ℕ)) (t : Tree) (us vs : List Tree) (b : Bool) → (b ≡ true → is_among before (deal_id t) ≡ false)
    → all_distinct before ≡ true
    → (all_distinct (before ++ deal_id t ∷ []) ≡ true → all_distinct ((before ++ deal_id t ∷ []) ++ map deal_id us) ≡ true)
    → all_distinct (before ++ map deal_id vs) ≡ true → all_distinct (before ++ map deal_id (cond b (t ∷ us) vs)) ≡ true
counted_step before t us vs true new h on off =
    ap all_distinct (sym (append_snoc before (deal_id t) (map deal_id us))) ∙ on (distinct_more before (deal_id t) h (new refl))
counted_step before t us vs false new h on off = off

-- the ids of the deals that count differ
counted_differ : (before : List (List ℕ)) (ts : List Tree) → all_distinct before ≡ true → all_distinct (before ++ map deal_id (that_count before ts)) ≡ true
counted_differ before [] h = ap all_distinct (append-nil before) ∙ h
counted_differ before (t ∷ ts) h =
    counted_step before t (that_count (before ++ deal_id t ∷ []) ts) (that_count before ts) (is_in_dollars t && not (is_among before (deal_id t)))
    (new_by (is_in_dollars t) (is_among before (deal_id t))) h (counted_differ (before ++ deal_id t ∷ []) ts) (counted_differ before ts h)

-- what is made of each of some trees has their ids
ids_of_made : {X : Type 0} (make : Tree → X) (id : X → List ℕ) (id_at : Tree → List ℕ) → ((t : Tree) → id (make t) ≡ id_at t) → (ts : List Tree)
    → map id (map make ts) ≡ map id_at ts
ids_of_made make id id_at is [] = refl
ids_of_made make id id_at is (t ∷ ts) = ap₂ (λ n ns. n ∷ ns) (is t) (ids_of_made make id id_at is ts)

-- an impression
abbrev deals_in : Tree → List Tree
deals_in t = that_count [] (items_in (given_within (codes "deals") (given (codes "pmp") t)))

abbrev imp_at : Bool → Tree → Imp
imp_at dollars t = record {
  id = imp_id t;
  floor = units_or_zero (floor_in (given (codes "bidfloor") t));
  sold = is_sold dollars (Some t);
  private_only = is_number_text (codes "1") (given_within (codes "private_auction") (given (codes "pmp") t));
  deals = map deal_at (deals_in t);
  exp = seconds_in (given (codes "exp") t);
  in_range = floor_low (given (codes "bidfloor") t);
  exp_in_range = whole_low MOST_IMP_SECONDS (given (codes "exp") t);
  distinct = ap all_distinct (ids_of_made deal_at (λ (d : Deal). d.id) deal_id (λ u. refl) (deals_in t)) ∙ counted_differ [] (items_in (given_within (codes "deals") (given (codes "pmp") t))) refl;
}

imp_says : (dollars : Bool) (t : Tree) → Says (imp_rows dollars []) (Some t) (imp_at dollars t)
imp_says dollars t =
    let deals = zip_made (λ u d. Says deal_rows (Some u) d) deal_at deal_says (deals_in t) in
    (refl, (tt, (refl, (tt, (tt, (refl, (tt, (deals, (refl, (refl, tt))))))))))

not_true : (a : Bool) → not a ≡ true → a ≡ false
not_true true h = cc
not_true false h = refl

-- the ids of impressions that have no fault differ
ids_differ : (dollars : Bool) (before ts : List Tree) → all_distinct (map imp_id before) ≡ true
    → first_among (λ us. imp_rows dollars (map imp_id us)) before ts ≡ None → all_distinct (map imp_id before ++ map imp_id ts) ≡ true
ids_differ dollars before [] h k = ap all_distinct (append-nil (map imp_id before)) ∙ h
ids_differ dollars before (t ∷ ts) h k =
    let parts = none_among (λ us. imp_rows dollars (map imp_id us)) before t ts k in
    let fresh = holds (not (is_among (map imp_id before) (imp_id t))) (RepeatedImp (imp_id t)) (none_at 1 (imp_rows dollars (map imp_id before)) (Some t) parts.0) in
    let more : map imp_id (before ++ t ∷ []) ≡ map imp_id before ++ imp_id t ∷ [] = map-append imp_id before (t ∷ []) in
    let distinct = ap all_distinct more ∙ distinct_more (map imp_id before) (imp_id t) h (not_true (is_among (map imp_id before) (imp_id t)) fresh) in
    ap all_distinct (sym (append_snoc (map imp_id before) (imp_id t) (map imp_id ts)) ∙ ap (λ ns. ns ++ map imp_id ts) (sym more))
    ∙ ids_differ dollars (before ++ t ∷ []) ts distinct parts.1

-- a request
abbrev request_imps : Tree → List Tree
request_imps t = items_in (given (codes "imp") t)

abbrev HasRequest : Tree → Type 0
HasRequest t = (r : BidRequest) × Says request_rows (Some t) r

request_with : (t : Tree) → 1 ≤ length (request_imps t) → length (request_imps t) ≤ 16 → all_distinct (map imp_id (request_imps t)) ≡ true → HasRequest t
request_with t some few distinct =
    let ts = request_imps t in
    let dollars = takes_dollars (Some t) in
    let imps = zip_made (λ u m. Says (imp_rows dollars []) (Some u) m) (imp_at dollars) (imp_says dollars) ts in
    let many : length (map (imp_at dollars) ts) ≡ length ts = length-map ts (imp_at dollars) in
    let ids : map (λ (m : Imp). m.id) (map (imp_at dollars) ts) ≡ map imp_id ts = ids_of_made (imp_at dollars) (λ (m : Imp). m.id) imp_id (λ u. refl) ts in (
      record {
        id = text_or_empty (given (codes "id") t);
        imps = map (imp_at dollars) ts;
        wseat = texts_in (given (codes "wseat") t);
        bseat = texts_in (given (codes "bseat") t);
        bcat = texts_in (given (codes "bcat") t);
        badv = texts_in (given (codes "badv") t);
        digest = _;
        some_imp = subst (λ n. 1 ≤ n) (sym many) some;
        few_imps = subst (λ n. n ≤ 16) (sym many) few;
        distinct = ap all_distinct ids ∙ distinct;
      },
      (refl, (tt, (tt, (tt, (refl, (refl, (refl, (refl, (imps, (refl, tt)))))))))),
    )

pub some_request : (t : Tree) → request_fault t ≡ None → HasRequest t
some_request t h =
    let count = length (request_imps t) in
    request_with t (leb-true 1 count (holds (nat_le 1 count) NoImp (none_at 1 request_rows (Some t) h)))
    (leb-true count 16 (holds (nat_le count 16) TooManyImps (none_at 2 request_rows (Some t) h)))
    (ids_differ (takes_dollars (Some t)) [] (request_imps t) refl (none_at 8 request_rows (Some t) h))

-- a bid, a seat, and an answer
abbrev bid_at : Tree → Bid
bid_at t = record {
  whole = is_whole_bid (Some t);
  id = text_or_empty (given (codes "id") t);
  impid = text_or_empty (given (codes "impid") t);
  price = price_in (given (codes "price") t);
  nurl = text_or_empty (given (codes "nurl") t);
  burl = text_or_empty (given (codes "burl") t);
  lurl = text_or_empty (given (codes "lurl") t);
  adid = text_or_empty (given (codes "adid") t);
  adomain = texts_in (given (codes "adomain") t);
  cid = text_or_empty (given (codes "cid") t);
  cat = texts_in (given (codes "cat") t);
  dealid = text_in (given (codes "dealid") t);
  exp = whole_or_zero MOST_SECONDS (given (codes "exp") t);
  body = body t;
  price_in_range = price_ranges (given (codes "price") t);
  exp_in_range = whole_low MOST_SECONDS (given (codes "exp") t);
}

bid_says : (t : Tree) → Says bid_rows (Some t) (bid_at t)
bid_says t = (refl, (refl, (refl, (refl, (refl, (refl, (refl, (refl, (refl, (refl, (refl, (refl, (refl, (refl, tt))))))))))))))

abbrev seat_at : Tree → SeatBid
seat_at t = record {
  seat = text_or_empty (given (codes "seat") t);
  all_or_none = is_number_text (codes "1") (given (codes "group") t);
  bids = map bid_at (items_in (given (codes "bid") t));
}

seat_says : (t : Tree) → Says seat_rows (Some t) (seat_at t)
seat_says t = (tt, (refl, (refl, (zip_made (λ u b. Says bid_rows (Some u) b) bid_at bid_says (items_in (given (codes "bid") t)), tt))))

abbrev HasAnswer : List ℕ → Tree → Type 0
HasAnswer auction t = (a : BidAnswer) × Says (answer_rows auction) (Some t) a

pub some_answer : (auction : List ℕ) (t : Tree) → answer_fault auction t ≡ None → HasAnswer auction t
some_answer auction t h =
    let ts = items_in (given (codes "seatbid") t) in
    let says = zip_made (λ u s. Says seat_rows (Some u) s) seat_at seat_says ts in
    let few = leb-true (bid_count ts) MOST_BIDS (holds (nat_le (bid_count ts) MOST_BIDS) TooManyBids (none_at 5 (answer_rows auction) (Some t) h)) in (
      record {
        bidid = text_or_empty (given (codes "bidid") t);
        seats = map seat_at ts;
        few = subst (λ n. n ≤ MOST_BIDS) (sym (seats_bids ts (map seat_at ts) says)) few;
      },
      (tt, (tt, (tt, (tt, (says, (tt, (refl, tt))))))),
    )

-- The bids that a bidder makes for an auction have URLs of their own, and so have those that its ask keeps.
use Rattle.std.proofs.Common.{◌≡◌, ◌≢◌, ℕ, ◌+◌, ◌^◌, ◌<◌, ◌≤◌, List, [], ◌∷◌, ◌++◌, length, map, Bool, true, false, cond, codes, refl, sym, ap, ap₂, ◌∙◌, subst, arith, All, Option, Some, None}
use Rattle.std.specs.Prelude.{IfSome, decimal, nat_le, nat_lt, unwrap_or}
use Rattle.std.specs.List.{AllZip, cons_option, enumerate_from, flat_map}
use Rattle.std.proofs.lemmas.List.Elements.{All-append, All-cons, All-head, All-map, All-nil, All-tail, All-weaker}
use Rattle.adx_json.specs.Tree.{Tree, items_of}
use Rattle.adx_units.specs.Number.{digits_value}
use Rattle.adx_units.specs.declared.offer.Offer.{Offer}
use Rattle.adx_json.specs.Rows.{Says}
use Rattle.adx_json.specs.Values.{given, list_items, text_or_empty}
use Rattle.adx_json.proofs.Listing.{Say}
use Rattle.formats.proofs.Decimals.{decimal_value}
use Rattle.rtb_request.specs.declared.bid_request.BidRequest.{BidRequest}
use Rattle.rtb_request.specs.declared.bid_request.TheConstants.{MOST_IMPS}
use Rattle.rtb_request.specs.declared.imp.Imp.{Imp}
use Rattle.rtb_response.specs.Answers.{IsAnswer, seat_rows}
use Rattle.rtb_response.specs.Bids.{bid_rows}
use Rattle.rtb_response.specs.declared.bid.Bid.{Bid}
use Rattle.rtb_response.specs.declared.bid_answer.BidAnswer.{BidAnswer}
use Rattle.rtb_response.specs.declared.bid_answer.SeatBid.{SeatBid}
use Rattle.deal_floor.specs.declared.campaign.Campaign.{Campaign}
use Rattle.script_lines.specs.Making.{SeatedBid, all_bids, ask_of, bids_of, bids_of_seat, kept_of, seated}
use Rattle.day_rules.specs.Asks.{is_winners, may_be_told, settled, settled_kept, texts_of_loss}
use Rattle.day_rules.specs.Replies.{Reply, ask_reply, ask_reply_by, asks_with, bids_with, full, sale_reply, seen_in, settled_reply, text_with}
use Rattle.day_rules.specs.Terms.{Terms}
use Rattle.day_rules.specs.declared.answer.Seen.{Seen}
use Rattle.day_rules.specs.declared.answer.Which.{Which}
use Rattle.day_rules.specs.declared.ask.Ask.{Ask}
use Rattle.day_rules.specs.declared.ask.Kept.{Kept}
use Rattle.day_rules.specs.declared.entry.Entry.{Entry}
use Rattle.notice_book.specs.declared.kind.NoticeKind.{NoticeKind}
use Rattle.bidder_core.specs.Answers.{answer_for, answer_to, answer_tree, answer_with, auction_bids, bid_tree, imp_bids, notice_url, offered}
use Rattle.bidder_core.specs.BidIds.{bid_id, price_in}
use Rattle.bidder_core.specs.declared.answer.TheConstants.{MOST_BIDS}
use Rattle.bidder_core.specs.declared.price_line.Price.{Price}
use Rattle.bidder_core.specs.declared.price_line.PriceLine.{PriceLine}
use Rattle.bidder_core.proofs.BidIds.{bid_id_price}
use Rattle.two_books.specs.Steps.{ReadsAnswer}
use Rattle.two_books.proofs.Agreeing.{named_by_url, right_cancel}
use Rattle.two_books.proofs.Answered.{items_back, seat_tree}
use Rattle.two_books.specs.Settling.{AreApart, Distinct, IsApartEntry, burls}
use Rattle.two_books.proofs.Pairs.{IsOfKey, all_places, distinct_keys, distinct_take, distinct_weaker, places_rise}

-- ---- ids

imp_by_id : (i j k : ℕ) → i < 10 ^ 64 → j < 10 ^ 64 → bid_id i k ≡ bid_id j k → i ≡ j
imp_by_id i j k few small same =
    sym (decimal_value i few) ∙ (ap digits_value (right_cancel (decimal i) (decimal j) (45 ∷ decimal k) same) ∙ decimal_value j small)

price_by_id : (i j k l : ℕ) → i < 10 ^ 64 → j < 10 ^ 64 → k < 10 ^ 64 → l < 10 ^ 64 → bid_id i k ≡ bid_id j l → k ≡ l
price_by_id i j k l a b c d same = sym (bid_id_price i k a c) ∙ (ap price_in same ∙ bid_id_price j l b d)

-- ---- the bids of an answer

abbrev burl_in : Tree → List ℕ
burl_in t = text_or_empty (given (codes "burl") t)

module _ (line : PriceLine) where
  abbrev bill_url : ℕ → ℕ → List ℕ
  bill_url i j = notice_url line.base (bid_id i j) NoticeKind.Bill

  -- a bid for an impression at a price, both known by their places
  record IsBidAt (i j : ℕ) (t : Tree) : Type 0 where
    pub few : i < MOST_IMPS
    pub low : j < length line.prices
    pub url : burl_in t ≡ bill_url i j

  abbrev IsBidFor : ℕ → Tree → Type 0
  IsBidFor i t = (j : ℕ) × IsBidAt i j t

  abbrev Other : Tree → Tree → Type 0
  Other t u = burl_in t ≢ burl_in u

  other_price : (i j k : ℕ) (t u : Tree) → IsBidAt i j t → IsBidAt i k u → j < k → Other t u
  other_price i j k t u x y below same =
      let ids : bid_id i j ≡ bid_id i k = named_by_url line.base (bid_id i j) (bid_id i k) (sym x.url ∙ (same ∙ y.url)) in
      let one : j ≡ k = price_by_id i i j k (omega (arith, x.few)) (omega (arith, x.few)) (omega (arith, x.low, line.few_prices)) (omega (arith, y.low, line.few_prices)) ids in
      absurd (omega (arith, one, below))

  other_imp : (i j : ℕ) (t u : Tree) → IsBidFor i t → IsBidFor j u → i < j → Other t u
  other_imp i j t u (k, x) (l, y) below same =
      let ids : bid_id i k ≡ bid_id j l = named_by_url line.base (bid_id i k) (bid_id j l) (sym x.url ∙ (same ∙ y.url)) in
      let price : k ≡ l = price_by_id i j k l (omega (arith, x.few)) (omega (arith, y.few)) (omega (arith, x.low, line.few_prices)) (omega (arith, y.low, line.few_prices)) ids in
      let one : i ≡ j = imp_by_id i j l (omega (arith, x.few)) (omega (arith, y.few)) (ap (bid_id i) (sym price) ∙ ids) in
      absurd (omega (arith, one, below))

  abbrev PriceKey : ℕ × Price → ℕ
  PriceKey p = p.0

  abbrev ImpKey : ℕ × Imp → ℕ
  ImpKey p = p.0

  bid_is : (i : ℕ) (imp : Imp) (j : ℕ) (p : Price) → i < MOST_IMPS → j < length line.prices → IsBidAt i j (bid_tree line i imp j p)
  bid_is i imp j p few low = record { few = few; low = low; url = refl }

  offer_at : (i : ℕ) (imp : Imp) → i < MOST_IMPS → (j : ℕ) (p : Price) → j < length line.prices
      → IsOfKey Other (IsBidAt i) PriceKey (offered line i imp) (other_price i) (j, p)
  offer_at i imp few j p low = record { each = each (nat_le imp.floor.0 p.price.0); distinct = distinct (nat_le imp.floor.0 p.price.0) }
    where
      one : IsBidAt i j (bid_tree line i imp j p)
      one = bid_is i imp j p few low

      each : (t : Bool) → All (IsBidAt i j) (cond t (bid_tree line i imp j p ∷ []) [])
      each true = All-cons (IsBidAt i j) (bid_tree line i imp j p) [] one (All-nil (IsBidAt i j))
      each false = All-nil (IsBidAt i j)

      distinct : (t : Bool) → Distinct Other (cond t (bid_tree line i imp j p ∷ []) [])
      distinct true = (All-nil (Other (bid_tree line i imp j p)), tt)
      distinct false = tt

  each_for : (i : ℕ) (imp : Imp) → i < MOST_IMPS → (n : ℕ) (ps : List Price) → n + length ps ≤ length line.prices
      → All (IsBidFor i) (flat_map (offered line i imp) (enumerate_from n ps))
  each_for i imp few n [] short = All-nil (IsBidFor i)
  each_for i imp few n (p ∷ ps) short =
      All-append (IsBidFor i) (offered line i imp (n, p)) (flat_map (offered line i imp) (enumerate_from (n + 1) ps))
      (All-weaker (IsBidAt i n) (IsBidFor i) (λ t is. (n, is)) (offered line i imp (n, p)) (offer_at i imp few n p (omega (arith, short))).each)
      (each_for i imp few (n + 1) ps (omega (arith, short)))

  imp_at : (i : ℕ) (imp : Imp) → i < MOST_IMPS → IsOfKey Other IsBidFor ImpKey (imp_bids line) other_imp (i, imp)
  imp_at i imp few = record {
    each = each_for i imp few 0 line.prices (omega arith);
    distinct =
        distinct_keys Other (IsBidAt i) PriceKey (offered line i imp) (other_price i) 0 (enumerate_from 0 line.prices) (places_rise 0 line.prices)
        (all_places (IsOfKey Other (IsBidAt i) PriceKey (offered line i imp) (other_price i)) (length line.prices) 0 line.prices (omega arith) (λ j p low. offer_at i imp few j p low));
  }

  bids_distinct : (imps : List Imp) → length imps ≤ MOST_IMPS → Distinct Other (auction_bids line imps)
  bids_distinct imps few =
      distinct_take Other MOST_BIDS (flat_map (imp_bids line) (enumerate_from 0 imps))
      (distinct_keys Other IsBidFor ImpKey (imp_bids line) other_imp 0 (enumerate_from 0 imps) (places_rise 0 imps)
      (all_places (IsOfKey Other IsBidFor ImpKey (imp_bids line) other_imp) MOST_IMPS 0 imps (omega (arith, few)) (λ i imp low. imp_at i imp low)))

  -- ---- as the exchange reads them

  abbrev OtherUrl : List ℕ → List ℕ → Type 0
  OtherUrl u v = u ≢ v

  abbrev bid_urls : List Bid → List (List ℕ)
  bid_urls bs = map (λ (b : Bid). b.burl) bs

  urls_of_trees : (ts : List Tree) → Distinct Other ts → Distinct OtherUrl (map burl_in ts)
  urls_of_trees [] h = tt
  urls_of_trees (t ∷ ts) h = (All-map (OtherUrl (burl_in t)) burl_in ts h.0, urls_of_trees ts h.1)

  urls_read : (ts : List Tree) (bs : List Bid) → AllZip (Say bid_rows) ts bs → map burl_in ts ≡ bid_urls bs
  urls_read [] [] h = refl
  urls_read [] (b ∷ bs) h = absurd h
  urls_read (t ∷ ts) [] h = absurd h
  urls_read (t ∷ ts) (b ∷ bs) h = ap₂ (λ (u : List ℕ) (l : List (List ℕ)). u ∷ l) (sym h.0.1.1.1.1.1.0) (urls_read ts bs h.1)

  seat_urls : (bids : List Tree) (s : SeatBid) → Distinct Other bids → AllZip (Say bid_rows) (list_items (items_of bids)) s.bids
      → Distinct OtherUrl (bid_urls s.bids)
  seat_urls bids s h says =
      subst (Distinct OtherUrl) (urls_read (list_items (items_of bids)) s.bids says)
      (subst (λ (ts : List Tree). Distinct OtherUrl (map burl_in ts)) (sym (items_back bids)) (urls_of_trees bids h))

  -- ---- the bids with what they came by

  abbrev seated_urls : List SeatedBid → List (List ℕ)
  seated_urls xs = map (λ (x : SeatedBid). x.bid.burl) xs

  urls_seated : (bidid : List ℕ) (s : SeatBid) (bs : List Bid) → seated_urls (map (seated 0 bidid s) bs) ≡ bid_urls bs
  urls_seated bidid s [] = refl
  urls_seated bidid s (b ∷ bs) = ap (λ (l : List (List ℕ)). b.burl ∷ l) (urls_seated bidid s bs)

  append_none : (xs : List SeatedBid) → Distinct OtherUrl (seated_urls xs) → Distinct OtherUrl (seated_urls (xs ++ []))
  append_none [] h = tt
  append_none (x ∷ xs) h = (subst (λ (l : List (List ℕ)). All (OtherUrl x.bid.burl) l) (sym (none_more xs)) h.0, append_none xs h.1)
    where
      none_more : (ys : List SeatedBid) → seated_urls (ys ++ []) ≡ seated_urls ys
      none_more [] = refl
      none_more (y ∷ ys) = ap (λ (l : List (List ℕ)). y.bid.burl ∷ l) (none_more ys)

  one_seat : (bidid : List ℕ) (u : Tree) (seats : List SeatBid) → AllZip (Say seat_rows) (u ∷ []) seats
      → ((s : SeatBid) → Says seat_rows (Some u) s → Distinct OtherUrl (bid_urls s.bids))
      → Distinct OtherUrl (seated_urls (flat_map (bids_of_seat 0 bidid) seats))
  one_seat bidid u [] h each = tt
  one_seat bidid u (s ∷ []) h each =
      append_none (bids_of_seat 0 bidid s) (subst (Distinct OtherUrl) (sym (urls_seated bidid s s.bids)) (each s h.0))
  one_seat bidid u (s ∷ r ∷ rest) h each = absurd h.1

  tree_urls : (auction : List ℕ) (bids : List Tree) (a : BidAnswer) → Distinct Other bids → IsAnswer auction (answer_tree auction line.seat bids) a
      → Distinct OtherUrl (seated_urls (flat_map (bids_of_seat 0 a.bidid) a.seats))
  tree_urls auction bids a h read =
      one_seat a.bidid (seat_tree line.seat bids) a.seats read.1.1.1.1.1.0 (λ s says. seat_urls bids s h says.1.1.1.0)

  with_urls : (auction : List ℕ) (bids : List Tree) (a : BidAnswer) (t : Tree) → Distinct Other bids → answer_with auction line.seat bids ≡ Some t
      → IsAnswer auction t a
      → Distinct OtherUrl (seated_urls (flat_map (bids_of_seat 0 a.bidid) a.seats))
  with_urls auction [] a t h is read = absurd (cc)
  with_urls auction (b ∷ bids) a t h is read =
      let same : answer_tree auction line.seat (b ∷ bids) ≡ t = ap (λ (o : Option Tree). unwrap_or o t) is in
      tree_urls auction (b ∷ bids) a h (subst (λ (u : Tree). IsAnswer auction u a) (sym same) read)

  read_urls : (auction : List ℕ) (imps : List Imp) → length imps ≤ MOST_IMPS → (o : Option Tree) (answer : Option BidAnswer)
      → answer_for line auction imps ≡ o → ReadsAnswer auction o answer
      → Distinct OtherUrl (seated_urls (bids_of (0, answer)))
  read_urls auction imps few None None is read = tt
  read_urls auction imps few None (Some a) is read = absurd read
  read_urls auction imps few (Some t) None is read = tt
  read_urls auction imps few (Some t) (Some a) is read = with_urls auction (auction_bids line imps) a t (bids_distinct imps few) is read

  all_urls : (answer : Option BidAnswer) → Distinct OtherUrl (seated_urls (bids_of (0, answer))) → Distinct OtherUrl (seated_urls (all_bids (answer ∷ [])))
  all_urls answer h = append_none (bids_of (0, answer)) h

  -- ---- the texts that an ask keeps

  kept_urls : (n : ℕ) (xs : List SeatedBid) → burls (map kept_of (enumerate_from n xs)) ≡ seated_urls xs
  kept_urls n [] = refl
  kept_urls n (x ∷ xs) = ap (λ (l : List (List ℕ)). x.bid.burl ∷ l) (kept_urls (n + 1) xs)

  apart_kept : (xs : List SeatedBid) → Distinct OtherUrl (seated_urls xs) → Distinct AreApart (burls (map kept_of (enumerate_from 0 xs)))
  apart_kept xs h =
      subst (Distinct AreApart) (sym (kept_urls 0 xs)) (distinct_weaker OtherUrl AreApart (λ u v other same. absurd (other same)) (seated_urls xs) h)

  -- what stays of texts has their URL or none
  settled_all : (P : List ℕ → Type 0) (offers : List Offer) (kept : List Kept) → P [] → All P (burls kept) → All P (burls (settled_kept offers kept))
  settled_all P offers [] none all = All-nil P
  settled_all P offers (k ∷ kept) none all =
      by (is_winners offers k) (may_be_told k) (settled_all P offers kept none (All-tail P k.burl (burls kept) all))
    where
      by : (won told : Bool) → All P (burls (settled_kept offers kept))
          → All P (burls (cons_option (cond won (Some k) (cond told (Some (texts_of_loss k)) None)) (settled_kept offers kept)))
      by true told rest = All-cons P k.burl (burls (settled_kept offers kept)) (All-head P k.burl (burls kept) all) rest
      by false true rest = All-cons P [] (burls (settled_kept offers kept)) none rest
      by false false rest = rest

  settled_apart : (offers : List Offer) (kept : List Kept) → Distinct AreApart (burls kept) → Distinct AreApart (burls (settled_kept offers kept))
  settled_apart offers [] h = tt
  settled_apart offers (k ∷ kept) h = by (is_winners offers k) (may_be_told k) (settled_apart offers kept h.1)
    where
      never : (u : List ℕ) → AreApart [] u
      never u same = refl

      nothing : (us : List (List ℕ)) → All (AreApart []) us
      nothing [] = All-nil (AreApart [])
      nothing (u ∷ us) = All-cons (AreApart []) u us (never u) (nothing us)

      by : (won told : Bool) → Distinct AreApart (burls (settled_kept offers kept))
          → Distinct AreApart (burls (cons_option (cond won (Some k) (cond told (Some (texts_of_loss k)) None)) (settled_kept offers kept)))
      by true told rest = (settled_all (AreApart k.burl) offers kept (λ same. same) h.0, rest)
      by false true rest = (nothing (burls (settled_kept offers kept)), rest)
      by false false rest = rest

  -- ---- the entry of a reply to such an ask

  settled_entry : (terms : Terms) (history : List Entry) (a : Ask) → IsApartEntry (Entry.Ask a)
      → IfSome (settled_reply terms.limits history a).entry IsApartEntry
  settled_entry terms history a own = by (nat_lt terms.limits.auctions (asks_with history)) (nat_lt terms.limits.bids (bids_with history a)) (nat_lt terms.limits.text (text_with history a))
    where
      by : (x y z : Bool)
          → IfSome (Reply.entry (cond x (full Which.Auctions (asks_with history)) (cond y (full Which.Bids (bids_with history a)) (cond z (full Which.Text (text_with history a)) (sale_reply history a))))) IsApartEntry
      by true y z = tt
      by false true z = tt
      by false false true = tt
      by false false false = own

  ask_entry : (seen : Seen) (terms : Terms) (history : List Entry) (a : Ask) → Distinct AreApart (burls a.kept)
      → IfSome (ask_reply_by seen terms history a).entry IsApartEntry
  ask_entry Seen.New terms history a h = settled_entry terms history (settled terms history a) (settled_apart (settled terms history a).offers a.kept h)
  ask_entry (Seen.Same place) terms history a h = tt
  ask_entry (Seen.Other kept) terms history a h = tt

  -- So it is with the bidder's own answer to a request.
  pub apart_answer : (request : BidRequest) (campaigns : List Campaign) (answer : Option BidAnswer) (now : ℕ) (terms : Terms) (history : List Entry)
      → ReadsAnswer request.id (answer_to line request) answer → IfSome (ask_reply terms history (ask_of request campaigns (answer ∷ []) now)).entry IsApartEntry
  apart_answer request campaigns answer now terms history reads =
      let a : Ask = ask_of request campaigns (answer ∷ []) now in
      ask_entry (seen_in history a.auction a.digest) terms history a
      (apart_kept (all_bids (answer ∷ [])) (all_urls answer (read_urls request.id request.imps request.few_imps (answer_to line request) answer refl reads)))

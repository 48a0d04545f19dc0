-- What an object says is one value: what tables leave out are proofs.
use Rattle.std.proofs.Common.{◌≡◌, ◌≤◌, ℕ, List, [], map, length, Bool, true, Some, sym, ◌∙◌}
use Rattle.std.proofs.Props.{props}
use Rattle.std.specs.List.{sum_by}
use mathlib.Core.HLevel.{is_prop→PathP}
use Rattle.adx_json.specs.Rows.{Says}
use Rattle.adx_json.specs.Tree.{Tree}
use Rattle.adx_json.proofs.Listing.{says_at, zip_same}
use Rattle.adx_units.specs.Number.{begins_with}
use Rattle.adx_units.specs.declared.price.TheConstants.{PRICE_LIMIT, BUDGET_LIMIT}
use Rattle.rtb_request.specs.Distinct.{all_distinct}
use Rattle.rtb_request.specs.Deals.{deal_rows}
use Rattle.rtb_request.specs.Imps.{imp_rows}
use Rattle.rtb_request.specs.Requests.{IsRequest, request_rows, takes_dollars}
use Rattle.rtb_request.specs.declared.deal.Deal.{Deal}
use Rattle.rtb_request.specs.declared.imp.Imp.{Imp}
use Rattle.rtb_request.specs.declared.imp.TheConstants.{MOST_SECONDS as MOST_IMP_SECONDS}
use Rattle.rtb_request.specs.declared.bid_request.BidRequest.{BidRequest}
use Rattle.rtb_request.specs.declared.bid_request.TheConstants.{MOST_IMPS}
use Rattle.rtb_response.specs.Prices.{is_in_range}
use Rattle.rtb_response.specs.Answers.{IsAnswer, answer_rows, seat_rows}
use Rattle.rtb_response.specs.Bids.{bid_rows}
use Rattle.rtb_response.specs.declared.bid.Bid.{Bid}
use Rattle.rtb_response.specs.declared.bid.TheConstants.{MOST_SECONDS, MOST_BIDS}
use Rattle.rtb_response.specs.declared.bid_answer.SeatBid.{SeatBid}
use Rattle.rtb_response.specs.declared.bid_answer.BidAnswer.{BidAnswer}
use Rattle.deal_floor.specs.Forms.{is_date}
use Rattle.deal_floor.specs.Pairs.{all_pairs_distinct, pair_of, have_bidders}
use Rattle.deal_floor.specs.Rosters.{IsRoster, bidder_names, bidder_rows, campaign_rows, roster_rows}
use Rattle.deal_floor.specs.declared.campaign.Campaign.{Campaign}
use Rattle.deal_floor.specs.declared.campaign.TheConstants.{MOST_CAMPAIGNS}
use Rattle.deal_floor.specs.declared.limits.Limits.{Limits}
use Rattle.deal_floor.specs.declared.limits.TheConstants as most
use Rattle.deal_floor.specs.declared.place.Place.{Place}
use Rattle.deal_floor.specs.declared.place.TheConstants.{MOST_BIDDERS}
use Rattle.deal_floor.specs.declared.roster.Roster.{Roster}
use Rattle.deal_floor.specs.declared.roster.TheConstants.{MOST_NOW}

-- an object is one deal, one impression, one request
deal_same : (t : Tree) (a b : Deal) → Says deal_rows (Some t) a → Says deal_rows (Some t) b → a ≡ b
deal_same t a b h k =
    let x = λ (n : ℕ). says_at n deal_rows (Some t) a h in
    let y = λ (n : ℕ). says_at n deal_rows (Some t) b k in
    let id : a.id ≡ b.id = x 0 ∙ sym (y 0) in
    let floor : a.floor ≡ b.floor = x 1 ∙ sym (y 1) in
    let wseat : a.wseat ≡ b.wseat = x 3 ∙ sym (y 3) in
    let wadomain : a.wadomain ≡ b.wadomain = x 4 ∙ sym (y 4) in
    let fixed : a.fixed ≡ b.fixed = x 5 ∙ sym (y 5) in
    λ i. record {
      id = id i;
      floor = floor i;
      fixed = fixed i;
      wseat = wseat i;
      wadomain = wadomain i;
      in_range = is_prop→PathP (λ j. (floor j).0 ≤ PRICE_LIMIT) (λ j. hlevel props) a.in_range b.in_range i;
    }

imp_same : (dollars : Bool) (t : Tree) (a b : Imp) → Says (imp_rows dollars []) (Some t) a → Says (imp_rows dollars []) (Some t) b → a ≡ b
imp_same dollars t a b h k =
    let x = λ (n : ℕ). says_at n (imp_rows dollars []) (Some t) a h in
    let y = λ (n : ℕ). says_at n (imp_rows dollars []) (Some t) b k in
    let id : a.id ≡ b.id = x 0 ∙ sym (y 0) in
    let floor : a.floor ≡ b.floor = x 2 ∙ sym (y 2) in
    let private_only : a.private_only ≡ b.private_only = x 5 ∙ sym (y 5) in
    let deals : a.deals ≡ b.deals = zip_same (λ u d. Says deal_rows (Some u) d) deal_same _ a.deals b.deals (x 7) (y 7) in
    let exp : a.exp ≡ b.exp = x 8 ∙ sym (y 8) in
    let sold : a.sold ≡ b.sold = x 9 ∙ sym (y 9) in
    λ i. record {
      id = id i;
      floor = floor i;
      sold = sold i;
      private_only = private_only i;
      deals = deals i;
      exp = exp i;
      in_range = is_prop→PathP (λ j. (floor j).0 ≤ PRICE_LIMIT) (λ j. hlevel props) a.in_range b.in_range i;
      exp_in_range = is_prop→PathP (λ j. exp j ≤ MOST_IMP_SECONDS) (λ j. hlevel props) a.exp_in_range b.exp_in_range i;
      distinct = is_prop→PathP (λ j. all_distinct (map (λ (d : Deal). d.id) (deals j)) ≡ true) (λ j. hlevel props) a.distinct b.distinct i;
    }

pub request_same : (t : Tree) (a b : BidRequest) → IsRequest t a → IsRequest t b → a ≡ b
request_same t a b h k =
    let dollars = takes_dollars (Some t) in
    let x = λ (n : ℕ). says_at n request_rows (Some t) a h.1 in
    let y = λ (n : ℕ). says_at n request_rows (Some t) b k.1 in
    let id : a.id ≡ b.id = x 0 ∙ sym (y 0) in
    let wseat : a.wseat ≡ b.wseat = x 4 ∙ sym (y 4) in
    let bseat : a.bseat ≡ b.bseat = x 5 ∙ sym (y 5) in
    let bcat : a.bcat ≡ b.bcat = x 6 ∙ sym (y 6) in
    let badv : a.badv ≡ b.badv = x 7 ∙ sym (y 7) in
    let imps : a.imps ≡ b.imps = zip_same (λ u m. Says (imp_rows dollars []) (Some u) m) (imp_same dollars) _ a.imps b.imps (x 8) (y 8) in
    let digest : a.digest ≡ b.digest = x 9 ∙ sym (y 9) in
    λ i. record {
      id = id i;
      imps = imps i;
      wseat = wseat i;
      bseat = bseat i;
      bcat = bcat i;
      badv = badv i;
      digest = digest i;
      some_imp = is_prop→PathP (λ j. 1 ≤ length (imps j)) (λ j. hlevel props) a.some_imp b.some_imp i;
      few_imps = is_prop→PathP (λ j. length (imps j) ≤ MOST_IMPS) (λ j. hlevel props) a.few_imps b.few_imps i;
      distinct = is_prop→PathP (λ j. all_distinct (map (λ (m : Imp). m.id) (imps j)) ≡ true) (λ j. hlevel props) a.distinct b.distinct i;
    }

-- an object is one bid, one seat, one answer
bid_same : (t : Tree) (a b : Bid) → Says bid_rows (Some t) a → Says bid_rows (Some t) b → a ≡ b
bid_same t a b h k =
    let x = λ (n : ℕ). says_at n bid_rows (Some t) a h in
    let y = λ (n : ℕ). says_at n bid_rows (Some t) b k in
    let whole : a.whole ≡ b.whole = x 0 ∙ sym (y 0) in
    let id : a.id ≡ b.id = x 1 ∙ sym (y 1) in
    let impid : a.impid ≡ b.impid = x 2 ∙ sym (y 2) in
    let price : a.price ≡ b.price = x 3 ∙ sym (y 3) in
    let nurl : a.nurl ≡ b.nurl = x 4 ∙ sym (y 4) in
    let burl : a.burl ≡ b.burl = x 5 ∙ sym (y 5) in
    let lurl : a.lurl ≡ b.lurl = x 6 ∙ sym (y 6) in
    let adid : a.adid ≡ b.adid = x 7 ∙ sym (y 7) in
    let adomain : a.adomain ≡ b.adomain = x 8 ∙ sym (y 8) in
    let cid : a.cid ≡ b.cid = x 9 ∙ sym (y 9) in
    let cat : a.cat ≡ b.cat = x 10 ∙ sym (y 10) in
    let dealid : a.dealid ≡ b.dealid = x 11 ∙ sym (y 11) in
    let exp : a.exp ≡ b.exp = x 12 ∙ sym (y 12) in
    let body : a.body ≡ b.body = x 13 ∙ sym (y 13) in
    λ i. record {
      whole = whole i;
      id = id i;
      impid = impid i;
      price = price i;
      nurl = nurl i;
      burl = burl i;
      lurl = lurl i;
      adid = adid i;
      adomain = adomain i;
      cid = cid i;
      cat = cat i;
      dealid = dealid i;
      exp = exp i;
      body = body i;
      price_in_range = is_prop→PathP (λ j. is_in_range (price j) ≡ true) (λ j. hlevel props) a.price_in_range b.price_in_range i;
      exp_in_range = is_prop→PathP (λ j. exp j ≤ MOST_SECONDS) (λ j. hlevel props) a.exp_in_range b.exp_in_range i;
    }

seat_same : (t : Tree) (a b : SeatBid) → Says seat_rows (Some t) a → Says seat_rows (Some t) b → a ≡ b
seat_same t a b h k =
    let x = λ (n : ℕ). says_at n seat_rows (Some t) a h in
    let y = λ (n : ℕ). says_at n seat_rows (Some t) b k in
    let seat : a.seat ≡ b.seat = x 1 ∙ sym (y 1) in
    let all_or_none : a.all_or_none ≡ b.all_or_none = x 2 ∙ sym (y 2) in
    let bids : a.bids ≡ b.bids = zip_same (λ u d. Says bid_rows (Some u) d) bid_same _ a.bids b.bids (x 3) (y 3) in
    λ i. record { seat = seat i; all_or_none = all_or_none i; bids = bids i }

pub answer_same : (auction : List ℕ) (t : Tree) (a b : BidAnswer) → IsAnswer auction t a → IsAnswer auction t b → a ≡ b
answer_same auction t a b h k =
    let x = λ (n : ℕ). says_at n (answer_rows auction) (Some t) a h.1 in
    let y = λ (n : ℕ). says_at n (answer_rows auction) (Some t) b k.1 in
    let seats : a.seats ≡ b.seats = zip_same (λ u s. Says seat_rows (Some u) s) seat_same _ a.seats b.seats (x 4) (y 4) in
    let bidid : a.bidid ≡ b.bidid = x 6 ∙ sym (y 6) in
    λ i. record {
      bidid = bidid i;
      seats = seats i;
      few = is_prop→PathP (λ j. sum_by (λ (s : SeatBid). length s.bids) (seats j) ≤ MOST_BIDS) (λ j. hlevel props) a.few b.few i;
    }

-- an object is one bidder, one campaign, one roster
place_same : (t : Tree) (a b : Place) → Says (bidder_rows []) (Some t) a → Says (bidder_rows []) (Some t) b → a ≡ b
place_same t a b h k =
    let x = λ (n : ℕ). says_at n (bidder_rows []) (Some t) a h in
    let y = λ (n : ℕ). says_at n (bidder_rows []) (Some t) b k in
    let name : a.name ≡ b.name = x 0 ∙ sym (y 0) in
    let host : a.host ≡ b.host = x 1 ∙ sym (y 1) in
    let port : a.port ≡ b.port = x 2 ∙ sym (y 2) in
    let path : a.path ≡ b.path = x 3 ∙ sym (y 3) in
    λ i. record {
      name = name i;
      host = host i;
      port = port i;
      path = path i;
      slash_first = is_prop→PathP (λ j. begins_with 47 (path j) ≡ true) (λ j. hlevel props) a.slash_first b.slash_first i;
    }

campaign_same : (names : List (List ℕ)) (t : Tree) (a b : Campaign) → Says (campaign_rows names []) (Some t) a
    → Says (campaign_rows names []) (Some t) b → a ≡ b
campaign_same names t a b h k =
    let x = λ (n : ℕ). says_at n (campaign_rows names []) (Some t) a h in
    let y = λ (n : ℕ). says_at n (campaign_rows names []) (Some t) b k in
    let bidder : a.bidder ≡ b.bidder = x 0 ∙ sym (y 0) in
    let seat : a.seat ≡ b.seat = x 1 ∙ sym (y 1) in
    let cid : a.cid ≡ b.cid = x 2 ∙ sym (y 2) in
    let budget : a.budget ≡ b.budget = x 3 ∙ sym (y 3) in
    λ i. record {
      bidder = bidder i;
      seat = seat i;
      cid = cid i;
      budget = budget i;
      positive = is_prop→PathP (λ j. 1 ≤ (budget j).0) (λ j. hlevel props) a.positive b.positive i;
      in_range = is_prop→PathP (λ j. (budget j).0 ≤ BUDGET_LIMIT) (λ j. hlevel props) a.in_range b.in_range i;
    }

limits_same : (a b : Limits) → a.auctions ≡ b.auctions → a.bids ≡ b.bids → a.text ≡ b.text → a ≡ b
limits_same a b auctions bids text = λ i. record {
  auctions = auctions i;
  bids = bids i;
  text = text i;
  few_auctions = is_prop→PathP (λ j. auctions j ≤ most.MOST_AUCTIONS) (λ j. hlevel props) a.few_auctions b.few_auctions i;
  few_bids = is_prop→PathP (λ j. bids j ≤ most.MOST_BIDS) (λ j. hlevel props) a.few_bids b.few_bids i;
  short_text = is_prop→PathP (λ j. text j ≤ most.MOST_TEXT) (λ j. hlevel props) a.short_text b.short_text i;
}

pub roster_same : (t : Tree) (a b : Roster) → IsRoster t a → IsRoster t b → a ≡ b
roster_same t a b h k =
    let names = bidder_names (Some t) in
    let x = λ (n : ℕ). says_at n roster_rows (Some t) a h.1 in
    let y = λ (n : ℕ). says_at n roster_rows (Some t) b k.1 in
    let day : a.day ≡ b.day = x 0 ∙ sym (y 0) in
    let base : a.base ≡ b.base = x 1 ∙ sym (y 1) in
    let now : a.now ≡ b.now = x 2 ∙ sym (y 2) in
    let bidders : a.bidders ≡ b.bidders = zip_same (λ u p. Says (bidder_rows []) (Some u) p) place_same _ a.bidders b.bidders (x 5) (y 5) in
    let campaigns : a.campaigns ≡ b.campaigns =
    zip_same (λ u c. Says (campaign_rows names []) (Some u) c) (campaign_same names) _ a.campaigns b.campaigns (x 8) (y 8) in
    let replies : a.replies ≡ b.replies = x 11 ∙ sym (y 11) in
    let limits : a.limits ≡ b.limits = limits_same a.limits b.limits (x 13 ∙ sym (y 13)) (x 14 ∙ sym (y 14)) (x 15 ∙ sym (y 15)) in
    let digest : a.digest ≡ b.digest = x 16 ∙ sym (y 16) in
    λ i. record {
      day = day i;
      base = base i;
      now = now i;
      bidders = bidders i;
      campaigns = campaigns i;
      replies = replies i;
      limits = limits i;
      digest = digest i;
      dated = is_prop→PathP (λ j. is_date (day j) ≡ true) (λ j. hlevel props) a.dated b.dated i;
      now_in_range = is_prop→PathP (λ j. now j ≤ MOST_NOW) (λ j. hlevel props) a.now_in_range b.now_in_range i;
      some_bidder = is_prop→PathP (λ j. 1 ≤ length (bidders j)) (λ j. hlevel props) a.some_bidder b.some_bidder i;
      few_bidders = is_prop→PathP (λ j. length (bidders j) ≤ MOST_BIDDERS) (λ j. hlevel props) a.few_bidders b.few_bidders i;
      distinct_names = is_prop→PathP (λ j. all_distinct (map (λ (p : Place). p.name) (bidders j)) ≡ true) (λ j. hlevel props) a.distinct_names b.distinct_names i;
      some_campaign = is_prop→PathP (λ j. 1 ≤ length (campaigns j)) (λ j. hlevel props) a.some_campaign b.some_campaign i;
      few_campaigns = is_prop→PathP (λ j. length (campaigns j) ≤ MOST_CAMPAIGNS) (λ j. hlevel props) a.few_campaigns b.few_campaigns i;
      distinct_pairs = is_prop→PathP (λ j. all_pairs_distinct (map pair_of (campaigns j)) ≡ true) (λ j. hlevel props) a.distinct_pairs b.distinct_pairs i;
      known_bidders = is_prop→PathP (λ j. have_bidders (length (bidders j)) (campaigns j) ≡ true) (λ j. hlevel props) a.known_bidders b.known_bidders i;
      few_replies = is_prop→PathP (λ j. length (replies j) ≤ length (bidders j)) (λ j. hlevel props) a.few_replies b.few_replies i;
    }

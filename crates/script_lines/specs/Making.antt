-- The ask that a request and its bidders' answers make: every bid with what admission says of it, and with its texts.
-- The objects are OpenRTB 2.6's (BidRequest, BidResponse, SeatBid, Bid). That all bids are kept, and their order, are
-- this project's own.
-- Example: of two bidders, the first without an answer and the second with a seat of two bids, all bids are these
-- two, each with the bidder's place 1.
use Rattle.std.specs.Prelude.{ℕ, List, [], map, Option, Some, None, Result, Ok, Err}
use Rattle.std.specs.List.{flat_map, enumerate_from}
use Rattle.adx_units.specs.declared.offer.Offer.{Offer}
use Rattle.rtb_request.specs.declared.bid_request.BidRequest.{BidRequest}
use Rattle.rtb_response.specs.declared.bid.Bid.{Bid}
use Rattle.rtb_response.specs.declared.bid_answer.BidAnswer.{BidAnswer}
use Rattle.rtb_response.specs.declared.bid_answer.SeatBid.{SeatBid}
use Rattle.deal_floor.specs.Admission.{admitted, refused_offer}
use Rattle.deal_floor.specs.declared.campaign.Campaign.{Campaign}
use Rattle.deal_floor.specs.declared.reason.Reason.{Reason}
use Rattle.day_rules.specs.declared.ask.Ask.{Ask}
use Rattle.day_rules.specs.declared.ask.Kept.{Kept}

-- a bid with what it came by: the bidder's place in the roster, the answer's bidid, and the seat
pub record SeatedBid : Type 0 where
  pub bidder : ℕ
  pub bidid : List ℕ
  pub seat : SeatBid
  pub bid : Bid

abbrev pub seated : ℕ → List ℕ → SeatBid → Bid → SeatedBid
seated bidder bidid s b = record { bidder = bidder; bidid = bidid; seat = s; bid = b }

abbrev pub bids_of_seat : ℕ → List ℕ → SeatBid → List SeatedBid
bids_of_seat bidder bidid s = map (seated bidder bidid s) s.bids

-- the bids of a bidder's answer; without an answer there are none
abbrev pub bids_of : ℕ × Option BidAnswer → List SeatedBid
bids_of (bidder, None) = []
bids_of (bidder, Some a) = flat_map (bids_of_seat bidder a.bidid) a.seats

-- all bids, in the order of bidders, seats and bids; the answers stand in the order of the roster's bidders
abbrev pub all_bids : List (Option BidAnswer) → List SeatedBid
all_bids answers = flat_map bids_of (enumerate_from 0 answers)

-- the offer that a bid is, as it is admitted or refused
abbrev pub offer_by : BidRequest → Bid → Result Offer Reason → Offer
offer_by r b (Ok o) = o
offer_by r b (Err reason) = refused_offer r b reason

abbrev pub offer_of : BidRequest → List Campaign → SeatedBid → Offer
offer_of r campaigns x =
    offer_by r x.bid (admitted (record { request = r; campaigns = campaigns; bidder = x.bidder; bidid = x.bidid; seat = x.seat; bid = x.bid }))

-- the texts of a bid with its place among all bids
abbrev pub kept_of : ℕ × SeatedBid → Kept
kept_of (place, x) = record {
  bid = place;
  seat = x.seat.seat;
  bidid = x.bidid;
  adid = x.bid.adid;
  nurl = x.bid.nurl;
  burl = x.bid.burl;
  lurl = x.bid.lurl;
  body = x.bid.body;
}

-- the ask of a request at a moment with these offers and texts; its place in the day isn't known yet
abbrev pub ask_by_parts : BidRequest → ℕ → List Offer → List Kept → Ask
ask_by_parts r now offers kept = record {
  auction = r.id;
  digest = r.digest;
  now = now;
  first = 0;
  imps = map (λ i. i.id) r.imps;
  offers = offers;
  kept = kept;
}

-- the ask of a request at a moment, before a day settles it
abbrev pub ask_of : BidRequest → List Campaign → List (Option BidAnswer) → ℕ → Ask
ask_of r campaigns answers now =
    ask_by_parts r now (map (offer_of r campaigns) (all_bids answers)) (map kept_of (enumerate_from 0 (all_bids answers)))

-- Which bids an exchange admits, and why it refuses one: the first of seven rules that fails.
-- The objects and attributes are OpenRTB 2.6's (BidRequest, Imp, Pmp, Deal, SeatBid, Bid). The order of the rules and
-- what `charge` and `life` are is this project's own.
use Rattle.std.specs.Prelude.{ℕ, ◌+◌, min, List, length, Bool, false, ◌&&◌, ◌||◌, not, nat_lt, nat_le, ◌==◌, if◌then◌else◌, is_some, is_ok, slice_get, Option, Some, None, Result, Ok, Err}
use Rattle.std.specs.List.{list_all, list_any, position}
use Rattle.adx_units.specs.Money.{units}
use Rattle.adx_units.specs.declared.units.Units.{Units}
use Rattle.adx_units.specs.declared.price.PriceFault.{PriceFault}
use Rattle.adx_units.specs.declared.offer.Offer.{Offer}
use Rattle.adx_units.specs.declared.offer.TheConstants.{ADMITTED}
use Rattle.adx_units.specs.Among.{is_among}
use Rattle.rtb_request.specs.Ids.{deal_has_id, imp_has_id}
use Rattle.rtb_request.specs.declared.bid_request.BidRequest.{BidRequest}
use Rattle.rtb_request.specs.declared.imp.Imp.{Imp}
use Rattle.rtb_request.specs.declared.deal.Deal.{Deal}
use Rattle.rtb_response.specs.declared.bid.Bid.{Bid}
use Rattle.rtb_response.specs.declared.bid_answer.SeatBid.{SeatBid}
use Rattle.deal_floor.specs.Pairs.{is_campaign}
use Rattle.deal_floor.specs.Reasons.{number_of}
use Rattle.deal_floor.specs.declared.campaign.Campaign.{Campaign}
use Rattle.deal_floor.specs.declared.reason.Reason.{Reason}
use Rattle.deal_floor.specs.declared.reason.Reason.TheVariants.{NotEligible, SeatNotAllowed, DealNotEligible, BelowFloor, BelowDealFloor, BlockedAdvertiser, BlockedCategory}
use Rattle.deal_floor.specs.declared.terms.TheConstants.{MOST_KEPT, USUAL_LIFE, MOST_LIFE, NO_IMP}

-- a list of those that are allowed; an empty one allows all
abbrev pub allows : List (List ℕ) → List ℕ → Bool
allows names name = length names == 0 || is_among names name

-- a bid with what it was made on: the request, the roster's campaigns, the bidder's place, the answer's bidid, the seat
pub record Case : Type 0 where
  pub request : BidRequest
  pub campaigns : List Campaign
  pub bidder : ℕ
  pub bidid : List ℕ
  pub seat : SeatBid
  pub bid : Bid

-- the case of a bid by its parts
abbrev pub case_by_parts : BidRequest → List Campaign → ℕ → List ℕ → SeatBid → Bid → Case
case_by_parts request campaigns bidder bidid seat bid =
    record { request = request; campaigns = campaigns; bidder = bidder; bidid = bidid; seat = seat; bid = bid }

-- the place of the impression that a bid names by its impid
abbrev pub place_of_imp : BidRequest → Bid → Option ℕ
place_of_imp r b = position (imp_has_id b.impid) r.imps

-- the place of the impression that the bid names
abbrev pub imp_place : Case → Option ℕ
imp_place c = place_of_imp c.request c.bid

-- the item at a place, if there is one
abbrev pub item_at : {A : Type 0} → List A → Option ℕ → Option A
item_at xs None = None
item_at xs (Some place) = slice_get xs place

-- the impression that the bid names
abbrev pub imp_of : Case → Option Imp
imp_of c = item_at c.request.imps (imp_place c)

-- the campaign of this bidder with the seat and the bid's cid
abbrev pub campaign_place : Case → Option ℕ
campaign_place c = position (is_campaign c.bidder c.seat.seat c.bid.cid) c.campaigns

-- the first deal of an impression with an id
abbrev pub deal_in : Imp → List ℕ → Option Deal
deal_in i id = item_at i.deals (position (deal_has_id id) i.deals)

-- the deal of this id among those of the impression
abbrev pub deal_by : Option (List ℕ) → Option Imp → Option Deal
deal_by None i = None
deal_by (Some id) None = None
deal_by (Some id) (Some i) = deal_in i id

-- the deal that the bid names by its dealid
abbrev pub deal_of : Case → Option Deal
deal_of c = deal_by c.bid.dealid (imp_of c)

-- the bid names a deal
abbrev pub names_deal : Bid → Bool
names_deal b = is_some b.dealid

-- a fact of what was found; not so where nothing was
abbrev pub holds_of : {A : Type 0} → (A → Bool) → Option A → Bool
holds_of test None = false
holds_of test (Some x) = test x

-- a number of what was found, 0 where nothing was
abbrev pub number_or_zero : {A : Type 0} → (A → ℕ) → Option A → ℕ
number_or_zero f None = 0
number_or_zero f (Some x) = f x

-- a price in units, 0 if it has a fault
abbrev pub units_of : Result Units PriceFault → ℕ
units_of (Ok u) = u.0
units_of (Err e) = 0

-- the bid's price in units
abbrev pub price_units : Case → ℕ
price_units c = units_of c.bid.price

-- all that a day may keep of a bid
abbrev pub kept_length : List ℕ → SeatBid → Bid → ℕ
kept_length bidid s b =
    length s.seat + (length bidid + (length b.adid + (length b.nurl + (length b.burl + (length b.lurl + length b.body)))))

-- several bids that want to win together or not at all
abbrev pub wants_several : SeatBid → Bool
wants_several s = s.all_or_none && nat_lt 1 (length s.bids)

-- 1. the bid can be sold: it is whole, has a price, its impression is sold, its campaign is known, its texts can be
-- kept, and its seat doesn't want several bids to win together
abbrev pub can_be_sold : Case → Bool
can_be_sold c =
    c.bid.whole && (is_ok c.bid.price && (holds_of (λ (i : Imp). i.sold) (imp_of c) && (is_some (campaign_place c)
    && (nat_le (kept_length c.bidid c.seat c.bid) MOST_KEPT && not (wants_several c.seat)))))

-- 2. the seat may bid: BidRequest's wseat and bseat
abbrev pub seat_allowed : Case → Bool
seat_allowed c = allows c.request.wseat c.seat.seat && not (is_among c.request.bseat c.seat.seat)

-- the advertisers of a bid may use the deal: Deal's wadomain
abbrev pub advertisers_allowed : Deal → Bid → Bool
advertisers_allowed d b =
    length d.wadomain == 0 || (not (length b.adomain == 0) && list_all (is_among d.wadomain) b.adomain)

-- the deal is open to the bid: Deal's wseat and wadomain, and a fixed price that isn't 0
abbrev pub deal_is_open_to : SeatBid → Bid → Deal → Bool
deal_is_open_to s b d = allows d.wseat s.seat && (advertisers_allowed d b && not (d.fixed && d.floor.0 == 0))

abbrev pub deal_eligible_by : SeatBid → Bid → Bool → Option Deal → Bool
deal_eligible_by s b private deal = if names_deal b then holds_of (deal_is_open_to s b) deal else not private

-- 3. a private auction is by deals alone; a deal that is named is the impression's, and open to the bid
abbrev pub deal_eligible : Case → Bool
deal_eligible c = deal_eligible_by c.seat c.bid (holds_of (λ (i : Imp). i.private_only) (imp_of c)) (deal_of c)

-- 4. without a deal, Imp's bidfloor is reached
abbrev pub floor_met : Case → Bool
floor_met c = names_deal c.bid || nat_le (number_or_zero (λ (i : Imp). i.floor.0) (imp_of c)) (price_units c)

-- 5. with a deal, Deal's bidfloor is reached
abbrev pub deal_floor_met : Case → Bool
deal_floor_met c = not (names_deal c.bid) || nat_le (number_or_zero (λ (d : Deal). d.floor.0) (deal_of c)) (price_units c)

-- 6. no advertiser of the bid is in the request's badv
abbrev pub advertiser_allowed : Case → Bool
advertiser_allowed c = not (list_any (is_among c.request.badv) c.bid.adomain)

-- 7. no category of the bid is in the request's bcat
abbrev pub category_allowed : Case → Bool
category_allowed c = not (list_any (is_among c.request.bcat) c.bid.cat)

-- what later rules say where this one holds, and else its reason
abbrev pub refused_unless : Bool → Reason → Option Reason → Option Reason
refused_unless holds reason later = if holds then later else Some reason

-- the first of the rules that fails
abbrev pub refusal_of : Case → Option Reason
refusal_of c =
    refused_unless (can_be_sold c) NotEligible
    (refused_unless (seat_allowed c) SeatNotAllowed
    (refused_unless (deal_eligible c) DealNotEligible
    (refused_unless (floor_met c) BelowFloor
    (refused_unless (deal_floor_met c) BelowDealFloor
    (refused_unless (advertiser_allowed c) BlockedAdvertiser
    (refused_unless (category_allowed c) BlockedCategory None))))))

-- what is paid: the price, or the floor of a fixed deal
abbrev pub charge_by : Option Deal → ℕ → Units
charge_by None price = units price
charge_by (Some d) price = if d.fixed then d.floor else units price

-- Bid's exp, else Imp's, else an hour; at most a week
abbrev pub life_by : ℕ → ℕ → ℕ
life_by bid imp = min (if bid == 0 then (if imp == 0 then USUAL_LIFE else imp) else bid) MOST_LIFE

-- the offer that an admitted bid is
abbrev pub offer : Case → Offer
offer c = record {
  imp = number_or_zero (λ n. n) (imp_place c);
  campaign = number_or_zero (λ n. n) (campaign_place c);
  charge = charge_by (deal_of c) (price_units c);
  life = life_by c.bid.exp (number_or_zero (λ (i : Imp). i.exp) (imp_of c));
  reason = ADMITTED;
}

-- the offer where there is no reason to refuse it
abbrev pub admitted_by : Offer → Option Reason → Result Offer Reason
admitted_by o None = Ok o
admitted_by o (Some reason) = Err reason

-- the bid as it is admitted, or the first rule that fails
abbrev pub admitted : Case → Result Offer Reason
admitted c = admitted_by (offer c) (refusal_of c)

-- the place that was found, or this other one
abbrev pub place_or : ℕ → Option ℕ → ℕ
place_or other None = other
place_or other (Some place) = place

-- the offer that a refused bid is: for the impression that it names, or for none
abbrev pub refused_offer : BidRequest → Bid → Reason → Offer
refused_offer r b reason = record {
  imp = place_or NO_IMP (place_of_imp r b);
  campaign = 0;
  charge = units 0;
  life = 0;
  reason = number_of reason;
}

-- The bids that were taken so far. Private: no public clause cites it.
use Rattle.std.specs.Prelude.{◌≡◌, ◌≢◌, ◌≤◌, ◌++◌, ℕ, List, length, map, All}
use Rattle.std.specs.List.{enumerate_from, flat_map}
use Rattle.adx_units.specs.declared.offer.Offer.{Offer}
use Rattle.allocator_core.specs.declared.reason.TheConstants.{AWARDED, LOST_TO_HIGHER, OVER_BUDGET}
use Rattle.rtb_request.specs.declared.bid_request.BidRequest.{BidRequest}
use Rattle.rtb_response.specs.declared.bid_answer.BidAnswer.{BidAnswer}
use Rattle.deal_floor.specs.Admission.{kept_length}
use Rattle.deal_floor.specs.declared.campaign.Campaign.{Campaign}
use Rattle.day_rules.specs.Asks.{IsOffer, NeedsTexts}
use Rattle.day_rules.specs.declared.ask.Kept.{Kept}
use Rattle.day_rules.specs.declared.limits.TheConstants.{MAX_KEPT}
use Rattle.script_lines.specs.declared.bids.Bids.{Bids}
use Rattle.script_lines.specs.Making.{SeatedBid, bids_of_seat, offer_of, kept_of}

-- a bid is an offer that a day takes, which isn't decided yet, and its texts fit where it is admitted
pub record FitsDay (r : BidRequest) (campaigns : List Campaign) (x : SeatedBid) : Type 0 where
  pub offer : IsOffer (length campaigns) (length r.imps) (offer_of r campaigns x)
  pub not_awarded : (offer_of r campaigns x).reason ≢ AWARDED
  pub not_lost : (offer_of r campaigns x).reason ≢ LOST_TO_HIGHER
  pub not_over : (offer_of r campaigns x).reason ≢ OVER_BUDGET
  pub texts : NeedsTexts (offer_of r campaigns x) → kept_length x.bidid x.seat x.bid ≤ MAX_KEPT

-- offers and texts are those of these bids
pub record AreOf (r : BidRequest) (campaigns : List Campaign) (bids : List SeatedBid) (offers : List Offer) (kept : List Kept) : Type 0 where
  pub offers_are : offers ≡ map (offer_of r campaigns) bids
  pub kept_are : kept ≡ map kept_of (enumerate_from 0 bids)
  pub fit : All (FitsDay r campaigns) bids

-- behind the bids that were taken these were, too
abbrev pub HasTaken : BidRequest → List Campaign → (old new : Bids) → List SeatedBid → Type 0
HasTaken r campaigns old new more =
    (bids : List SeatedBid)
    → AreOf r campaigns bids old.offers.items old.kept.items
    → AreOf r campaigns (bids ++ more) new.offers.items new.kept.items

-- the bids of an answer's seats
abbrev pub bids_of_seats : ℕ → BidAnswer → List SeatedBid
bids_of_seats bidder a = flat_map (bids_of_seat bidder a.bidid) a.seats

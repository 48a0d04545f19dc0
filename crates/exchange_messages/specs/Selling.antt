-- The awards of an ask as the exchange's answer says them, so far.
use Rattle.std.specs.Prelude.{ℕ, ◌+◌, ◌≤◌, List, length}
use Rattle.std.specs.List.{AllZip, enumerate_from}
use Rattle.adx_units.specs.declared.offer.Offer.{Offer}
use Rattle.day_rules.specs.declared.ask.Ask.{Ask}
use Rattle.day_rules.specs.declared.limits.TheConstants.{MAX_IMPS, MAX_OFFERS}
use Rattle.deal_floor.specs.declared.campaign.Campaign.{Campaign}
use Rattle.rtb_response.specs.declared.sold.Sold.{Sold}
use Rattle.script_lines.specs.declared.limits.TheConstants.{LAST_AWARD}
use Rattle.exchange_messages.specs.Sales.{IsSold, sold_bids}

-- these awards of an ask are said so, with numbers that run on from its first
abbrev pub AreSold : List Campaign → Ask → List (ℕ × Offer) → List Sold → Type 0
AreSold campaigns a bids sold = AllZip (IsSold campaigns a) (enumerate_from a.first bids) sold

-- an ask whose awards may be answered, as those of each ask of a legal history may: it has no more impressions and no more bids
-- than an ask may have, and none of its awards has a number past the last one
pub record MayBeTold (a : Ask) : Type 0 where
  pub imps : length a.imps ≤ MAX_IMPS
  pub offers : length a.offers ≤ MAX_OFFERS
  pub numbers : a.first + length (sold_bids a) ≤ LAST_AWARD + 1

-- Which fault stands for want of memory, and the names of members. This project's own.
use Rattle.std.specs.Prelude.{ℕ, List, Bool, true, false, codes}
use Rattle.deal_floor.specs.declared.fault.Field.{Field}
use Rattle.deal_floor.specs.declared.fault.Field.TheVariants as fields
use Rattle.deal_floor.specs.declared.fault.RosterFault.{RosterFault}
use Rattle.deal_floor.specs.declared.fault.RosterFault.TheVariants.{BadField, Repeated, TooMany, OutOfMemory}

-- the fault is that memory ran out
abbrev pub lacks_memory : RosterFault → Bool
lacks_memory (BadField field) = false
lacks_memory (Repeated index) = false
lacks_memory TooMany = false
lacks_memory OutOfMemory = true

-- a member's name behind that of its object
abbrev pub name_of : Field → List ℕ
name_of fields.Day = codes "day"
name_of fields.Base = codes "base"
name_of fields.Now = codes "now"
name_of fields.Bidders = codes "bidders"
name_of fields.BidderName = codes "bidder.name"
name_of fields.BidderHost = codes "bidder.host"
name_of fields.BidderPort = codes "bidder.port"
name_of fields.BidderPath = codes "bidder.path"
name_of fields.Campaigns = codes "campaigns"
name_of fields.CampaignBidder = codes "campaign.bidder"
name_of fields.CampaignSeat = codes "campaign.seat"
name_of fields.CampaignCid = codes "campaign.cid"
name_of fields.CampaignBudget = codes "campaign.budget"
name_of fields.Replies = codes "replies"
name_of fields.Limits = codes "limits"
name_of fields.LimitsAuctions = codes "limits.auctions"
name_of fields.LimitsBids = codes "limits.bids"
name_of fields.LimitsText = codes "limits.text"
name_of fields.Seat = codes "seat"
name_of fields.Prices = codes "prices"
name_of fields.PriceCid = codes "price.cid"
name_of fields.PricePrice = codes "price.price"

-- Which fault stands for want of memory, and the names of members. This project's own.
use Rattle.std.specs.Prelude.{ℕ, List, Bool, true, false, codes}
use Rattle.rtb_request.specs.declared.fault.Field.{Field}
use Rattle.rtb_request.specs.declared.fault.Field.TheVariants as fields
use Rattle.rtb_request.specs.declared.fault.RequestFault.{RequestFault}
use Rattle.rtb_request.specs.declared.fault.RequestFault.TheVariants.{NoId, NoImp, TooManyImps, RepeatedImp, BadField, OutOfMemory}

-- the fault is that memory ran out
abbrev pub lacks_memory : RequestFault → Bool
lacks_memory NoId = false
lacks_memory NoImp = false
lacks_memory TooManyImps = false
lacks_memory (RepeatedImp id) = false
lacks_memory (BadField field) = false
lacks_memory OutOfMemory = true

-- a member's name behind that of its object
abbrev pub name_of : Field → List ℕ
name_of fields.Cur = codes "cur"
name_of fields.Wseat = codes "wseat"
name_of fields.Bseat = codes "bseat"
name_of fields.Bcat = codes "bcat"
name_of fields.Badv = codes "badv"
name_of fields.ImpId = codes "imp.id"
name_of fields.ImpBidfloor = codes "imp.bidfloor"
name_of fields.ImpBidfloorcur = codes "imp.bidfloorcur"
name_of fields.ImpPmp = codes "imp.pmp"
name_of fields.PmpPrivateAuction = codes "pmp.private_auction"
name_of fields.PmpDeals = codes "pmp.deals"
name_of fields.DealId = codes "deal.id"
name_of fields.DealBidfloor = codes "deal.bidfloor"
name_of fields.DealBidfloorcur = codes "deal.bidfloorcur"
name_of fields.DealWseat = codes "deal.wseat"
name_of fields.DealWadomain = codes "deal.wadomain"

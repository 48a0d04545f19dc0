use Rattle.std.proofs.Common.{arith}
use Rattle.bidder_core.proofs.BidIds.{bid_id_made, bid_id_price}
use Rattle.bidder_core.proofs.law.ids_are_read_back.Goals as goal

pub returns-clause-made : goal.returns-clause-made
returns-clause-made c prices imp price few low within = bid_id_made prices imp price low within (omega arith)

pub returns-clause-price : goal.returns-clause-price
returns-clause-price c imp price low within = bid_id_price imp price (omega arith) (omega arith)

use Rattle.std.proofs.Common.{sym}
use Rattle.deal_floor.proofs.Sought.{absent_place, own_place, other_place}
use Rattle.deal_floor.proofs.campaigns.place_in.Goals as goal

pub returns-in-Err-clause-value : goal.returns-in-Err-clause-value
returns-in-Err-clause-value c = sym (absent_place c.args.campaigns.now c.args.order.now c.requires.sorted c.args.seat.now c.args.cid.now c.args.bidder _ c.in-Err.ensures.absent)

pub returns-then-is_of_bidder-clause-value : goal.returns-then-is_of_bidder-clause-value
returns-then-is_of_bidder-clause-value c = own_place c.args.campaigns.now c.args.order.now c.requires.sorted c.args.seat.now c.args.cid.now c.args.bidder _ _ c.in-Ok.ensures.found c.read-place.ensures (sym c.if-is_of_bidder.ensures)

pub returns-else-is_of_bidder-clause-value : goal.returns-else-is_of_bidder-clause-value
returns-else-is_of_bidder-clause-value c = other_place c.args.campaigns.now c.args.order.now c.requires.sorted c.args.seat.now c.args.cid.now c.args.bidder _ _ c.in-Ok.ensures.found c.read-place.ensures (sym c.if-is_of_bidder.ensures)

use Rattle.std.proofs.Common.{sym}
use Rattle.deal_floor.proofs.Sought.{found_some, absent_any}
use Rattle.deal_floor.proofs.campaigns.has_pair_in.Goals as goal

pub returns-in-Ok : goal.returns-in-Ok
returns-in-Ok c = sym (found_some c.args.campaigns.now c.args.order.now c.requires.sorted c.args.seat.now c.args.cid.now _ c.in-Ok.ensures.found)

pub returns-in-Err : goal.returns-in-Err
returns-in-Err c = sym (absent_any c.args.campaigns.now c.args.order.now c.requires.sorted c.args.seat.now c.args.cid.now _ c.in-Err.ensures.absent)

-- The meters, in an empty text.
use Rattle.std.proofs.Common.{refl}
use Rattle.exchange_messages.proofs.Requested.{floor_on}
use Rattle.exchange_messages.proofs.Replied.{reply_is}
use Rattle.exchange_messages.proofs.floor.Floor.show_meters.Goals as goal

pub returns-clause-reads : goal.returns-clause-reads
returns-clause-reads g c =
    let read = c.meters-meters.ensures.reads in
    (read.0, c.meters-meters.result, read.1, reply_is c.plain.result _ _ _ _ c.plain.ensures c.requires.empty c.in_ok-push_meters.ensures)

pub returns-clause-floor : goal.returns-clause-floor
returns-clause-floor g c = floor_on g.Y.DayDesk g.met.Y.DayDesk.same c.args.self.now _ _ refl c.requires.floor c.meters-meters.ensures.reads.1 c.requires.floor.lanes_are

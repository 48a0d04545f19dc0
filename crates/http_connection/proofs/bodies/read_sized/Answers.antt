-- The body is the front of what was taken.
use Rattle.std.proofs.Common.{Ok, ap}
use Rattle.http_connection.proofs.BodyParts.{sized}
use Rattle.http_connection.proofs.bodies.read_sized.Goals as goal

pub returns-in-Ok-true-clause-gives : goal.returns-in-Ok-true-clause-gives
returns-in-Ok-true-clause-gives g c =
    λ limit. sized limit c.args.size c.args.buffer.now c.need.new.buffer c.keep.new.self _ _ c.in-Ok-true.ensures.takes (c.in-Ok-true.ensures.there (ap Ok c.in-Ok-true.field-0-test)) c.keep.ensures

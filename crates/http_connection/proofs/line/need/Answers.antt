-- Nothing comes at the source's end.
use Rattle.std.proofs.Common.{Ok, length, ap, arith}
use Rattle.http_connection.proofs.line.need.Goals as goal

pub returns-in-Ok-false-clause-wanting : goal.returns-in-Ok-false-clause-wanting
returns-in-Ok-false-clause-wanting g c =
    λ _. let e = ap length (c.in-Ok-false.ensures.none (ap Ok c.in-Ok-false.field-0-test)) in let p = ap length c.pending.ensures in omega (arith, e, p, c.if-pending-count.false)

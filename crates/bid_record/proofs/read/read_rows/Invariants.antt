use Rattle.std.proofs.Common.{length}
use Rattle.bid_record.specs.Taking.{AreRead}
use Rattle.bid_record.proofs.read.read_rows.Given as goal

abbrev pub invariant-lines : goal.invariant-lines
invariant-lines l = AreRead l.bytes l.format l.day l.rows.campaigns.items l.rows.imps.items l.left l.n

abbrev pub decreases-lines : goal.decreases-lines
decreases-lines l = length l.left

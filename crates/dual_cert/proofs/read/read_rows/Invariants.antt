use Rattle.std.proofs.Common.{length}
use Rattle.dual_cert.specs.Taking.{AreRead}
use Rattle.dual_cert.proofs.read.read_rows.Given as goal

abbrev pub invariant-lines : goal.invariant-lines
invariant-lines l = AreRead l.bytes l.rows.alphas.items l.rows.betas.items l.left l.n

abbrev pub decreases-lines : goal.decreases-lines
decreases-lines l = length l.left

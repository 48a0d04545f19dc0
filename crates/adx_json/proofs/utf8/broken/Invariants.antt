use Rattle.std.proofs.Common.{length}
use Rattle.adx_json.proofs.Breaks.{BrokenSoFar}
use Rattle.adx_json.proofs.utf8.broken.Given as goal

abbrev pub invariant-bytes : goal.invariant-bytes
invariant-bytes l = BrokenSoFar l.run l.tail l.left

abbrev pub decreases-bytes : goal.decreases-bytes
decreases-bytes l = length l.left

use Rattle.std.proofs.Common.{length}
use Rattle.adx_json.proofs.Scans.{ScannedSoFar}
use Rattle.adx_json.proofs.number.scanned.Given as goal

abbrev pub invariant-bytes : goal.invariant-bytes
invariant-bytes l = ScannedSoFar l.bytes l.numeral l.left

abbrev pub decreases-bytes : goal.decreases-bytes
decreases-bytes l = length l.left

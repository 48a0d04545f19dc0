use Rattle.std.proofs.Common.{◌≡◌, length}
use Rattle.adx_json.specs.Repeats.{mark_from}
use Rattle.adx_json.proofs.repeats.mark_of.Given as goal

abbrev pub invariant-bytes : goal.invariant-bytes
invariant-bytes l = mark_from l.mark l.left ≡ mark_from 0 l.fn.name

abbrev pub decreases-bytes : goal.decreases-bytes
decreases-bytes l = length l.left

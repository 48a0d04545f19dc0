use Rattle.std.proofs.Common.{length}
use Rattle.adx_json.proofs.Stays.{KeptByFlags}
use Rattle.adx_json.proofs.repeats.kept_of.Given as goal

abbrev pub invariant-members : goal.invariant-members
invariant-members l = KeptByFlags l.fn.members.items l.left.items l.kept.items l.flags

abbrev pub decreases-members : goal.decreases-members
decreases-members l = length l.left.items

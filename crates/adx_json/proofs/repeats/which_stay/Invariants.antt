use Rattle.std.proofs.Common.{length}
use Rattle.adx_json.proofs.Stays.{ToldSoFar, has_met}
use Rattle.adx_json.proofs.repeats.which_stay.Given as goal

abbrev pub invariant-members : goal.invariant-members
invariant-members l = ToldSoFar l.fn.members l.left l.told.items (has_met l.seen)

abbrev pub decreases-members : goal.decreases-members
decreases-members l = length l.left

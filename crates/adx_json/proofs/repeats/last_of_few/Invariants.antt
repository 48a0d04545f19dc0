use Rattle.std.proofs.Common.{◌-◌, length}
use Rattle.adx_json.proofs.KeptMembers.{KeptSoFar}
use Rattle.adx_json.proofs.repeats.last_of_few.Given as goal

abbrev pub invariant-members : goal.invariant-members
invariant-members l = KeptSoFar l.fn.members.items l.kept.items l.at

abbrev pub decreases-members : goal.decreases-members
decreases-members l = length l.kept.items - l.at

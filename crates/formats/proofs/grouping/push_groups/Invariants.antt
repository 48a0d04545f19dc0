use Rattle.formats.proofs.SevenBits.{IsSpeltBehind}
use Rattle.formats.proofs.grouping.push_groups.Given as goal

abbrev pub invariant-loop-rest : goal.invariant-loop-rest
invariant-loop-rest N l = IsSpeltBehind l.initial.out.items l.n l.out.items l.rest

abbrev pub decreases-loop-rest : goal.decreases-loop-rest
decreases-loop-rest N l = l.rest

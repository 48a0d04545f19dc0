use Rattle.day_rules.proofs.Front.{IsFront}
use Rattle.day_rules.proofs.kept.settle_front.Given as goal

abbrev pub invariant-loop-place : goal.invariant-loop-place
invariant-loop-place l = IsFront l.offers l.initial.kept l.kept l.place l.count

use Rattle.std.proofs.Common.{◌≡◌, ◌+◌, drop}
use Rattle.std.specs.List.{sum_by}
use Rattle.day_machine.proofs.committed.charges_from.Given as goal

abbrev pub invariant-loop-n : goal.invariant-loop-n
invariant-loop-n l = l.sum + sum_by (λ w. w.charge.0) (drop l.n l.awards.awards) ≡ sum_by (λ w. w.charge.0) (drop l.first l.awards.awards)

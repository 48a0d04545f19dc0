use Rattle.std.proofs.Common.{◌≡◌, ◌++◌}
use Rattle.outbox.specs.Keeping.{due_numbers}
use Rattle.outbox.proofs.rows.Rows.due.Given as goal

abbrev pub invariant-loop-n : goal.invariant-loop-n
invariant-loop-n l = l.numbers.items ++ due_numbers l.now l.n-iterator ≡ due_numbers l.now l.self.deadlines

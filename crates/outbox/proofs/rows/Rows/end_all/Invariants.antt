use Rattle.std.proofs.Common.{take}
use Rattle.outbox.specs.Keeping.{EndsAll}
use Rattle.outbox.proofs.rows.Rows.end_all.Given as goal

abbrev pub invariant-loop-n : goal.invariant-loop-n
invariant-loop-n l = EndsAll (take l.n-index l.numbers) l.initial.self l.self

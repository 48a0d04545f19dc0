use Rattle.std.proofs.Common.{◌≡◌, ◌+◌, ◌++◌, List, length, vec_len}
use Rattle.outbox.specs.declared.row.Row.{Row}
use Rattle.outbox.specs.Keeping.{IsMade}
use Rattle.outbox.proofs.rows.Rows.make_all.Given as goal

abbrev pub invariant-rows : goal.invariant-rows
invariant-rows l = (rs : List Row) × (l.left.items ++ rs ≡ l.fn.made.items) × IsMade (l.fn.first + length l.left.items) rs l.fn.self l.self

abbrev pub decreases-rows : goal.decreases-rows
decreases-rows l = vec_len l.left

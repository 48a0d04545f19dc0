use Rattle.std.proofs.Common.{◌≡◌}
use Rattle.sql_archive.proofs.tables.move_days.Given as goal

abbrev pub invariant-loop-row : goal.invariant-loop-row
invariant-loop-row g l = l.conn.faults ≡ l.initial.conn.faults

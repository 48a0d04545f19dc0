use Rattle.std.proofs.Common.{◌≡◌}
use Rattle.std.specs.List.{flat_map, range_with_len}
use Rattle.outbox.specs.Rows.{rows_for}
use Rattle.outbox.proofs.asking.awarded_rows.Given as goal

abbrev pub invariant-loop-imp : goal.invariant-loop-imp
invariant-loop-imp l = l.out.items ≡ flat_map (rows_for l.ask) (range_with_len 0 l.imp)

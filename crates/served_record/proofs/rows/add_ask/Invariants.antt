use Rattle.std.proofs.Common.{◌≡◌, ◌+◌, ◌-◌, ◌++◌, length}
use Rattle.std.specs.List.{All, range_with_len}
use Rattle.served_record.specs.Steps.{IsNamed, imps_of, rows_for, sold_of}
use Rattle.served_record.proofs.rows.add_ask.Given as goal

abbrev pub invariant-loop-imp : goal.invariant-loop-imp
invariant-loop-imp l = record {
  rows : l.rows.rows.items ++ rows_for l.awards.awards l.rows.next l.ask (range_with_len l.imp (length l.ask.imps - l.imp))
      ≡ l.initial.rows.rows.items ++ rows_for l.awards.awards l.initial.rows.next l.ask (imps_of l.ask);
  next : l.rows.next + sold_of l.ask (range_with_len l.imp (length l.ask.imps - l.imp)) ≡ l.initial.rows.next + sold_of l.ask (imps_of l.ask);
  named : All IsNamed l.rows.rows.items;
}

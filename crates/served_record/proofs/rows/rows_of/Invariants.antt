use Rattle.std.proofs.Common.{◌≡◌, ◌+◌, ◌++◌, drop}
use Rattle.std.specs.List.{All}
use Rattle.served_record.specs.Steps.{IsNamed, rows_in, sold_in}
use Rattle.served_record.proofs.rows.rows_of.Given as goal

abbrev pub invariant-loop-entry : goal.invariant-loop-entry
invariant-loop-entry l = record {
  rows : l.rows.rows.items ++ rows_in l.awards.awards l.rows.next (drop l.entry-index l.entries) ≡ rows_in l.awards.awards 0 l.entries;
  next : l.rows.next + sold_in (drop l.entry-index l.entries) ≡ sold_in l.entries;
  named : All IsNamed l.rows.rows.items;
}

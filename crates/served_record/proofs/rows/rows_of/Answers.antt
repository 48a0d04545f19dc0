use Rattle.std.proofs.Common.{List, ℕ, ap₂, arith, drop, subst, sym, ◌++◌, ◌+◌, ◌∙◌}
use Rattle.bid_record.specs.declared.rows.ImpRow.{ImpRow}
use Rattle.served_record.specs.Steps.{AsksFew, rows_in}
use Rattle.served_record.proofs.RowLists.{entry_kept, sold_more}
use Rattle.served_record.proofs.rows.rows_of.Goals as goal

pub add-requires-clause-formed : goal.add-requires-clause-formed
add-requires-clause-formed c =
    subst AsksFew (sym c.entry-item.is) (c.requires.formed c.loop-entry.entry-index c.entry-item.result c.loop-entry-test.true)

pub add-requires-clause-enough : goal.add-requires-clause-enough
add-requires-clause-enough c =
    omega (arith, c.loop-entry.invariant.next, sold_more c.args.entries.now c.loop-entry.entry-index c.entry-item.result c.loop-entry-test.true c.entry-item.is, c.requires.enough)

pub loop-entry-preserved : goal.loop-entry-preserved
loop-entry-preserved c = record {
  rows =
      ap₂ (λ (rows : List ImpRow) (k : ℕ). rows ++ rows_in c.args.awards.now.awards k (drop (c.loop-entry.entry-index + 1) c.args.entries.now)) c.in_ok-add.ensures.rows c.in_ok-add.ensures.next
      ∙ entry_kept c.args.awards.now.awards c.loop-entry.rows.rows.items c.loop-entry.rows.next c.loop-entry.entry-index c.args.entries.now c.entry-item.result (rows_in c.args.awards.now.awards 0 c.args.entries.now) c.loop-entry-test.true c.entry-item.is c.loop-entry.invariant.rows;
  next = omega (arith, c.in_ok-add.ensures.next, c.loop-entry.invariant.next, sold_more c.args.entries.now c.loop-entry.entry-index c.entry-item.result c.loop-entry-test.true c.entry-item.is);
  named = c.in_ok-add.ensures.named;
}

-- What one entry more sold.
use Rattle.std.proofs.Common.{◌∙◌, List, sym, ap, arith}
use Rattle.std.specs.List.{enumerate_from, flat_map}
use Rattle.std.proofs.lemmas.List.{take_all}
use Rattle.day_rules.specs.declared.entry.Entry.{Entry}
use Rattle.command_reconcile.specs.Sales.{sold_by}
use Rattle.command_reconcile.proofs.Sold.{numbered_more}
use Rattle.command_reconcile.proofs.day_bills.sales_in.Goals as goal

pub loop-place-preserved : goal.loop-place-preserved
loop-place-preserved c =
    numbered_more sold_by c.args.entries.now c.loop-place.place c.index-entries-place.result c.loop-place.sales.items c.sell.new.sales.items (omega (arith, c.loop-place-test.true)) (sym c.index-entries-place.is)
    c.loop-place.invariant c.in_ok-sell.ensures

pub returns : goal.returns
returns c =
    c.loop-place.invariant ∙ ap (λ (es : List Entry). flat_map sold_by (enumerate_from 0 es)) (take_all c.loop-place.place c.args.entries.now (omega (arith, c.loop-place-test.false)))

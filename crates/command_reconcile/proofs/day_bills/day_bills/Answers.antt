-- The bill of one entry more.
use Rattle.std.proofs.Common.{◌∙◌, ◌++◌, [], Option, sym, ap, arith}
use Rattle.std.specs.List.{cons_option, filter_map}
use Rattle.std.proofs.lemmas.List.{take_all}
use Rattle.command_reconcile.specs.declared.bill.Bill.{Bill}
use Rattle.command_reconcile.specs.Sales.{sale_bill}
use Rattle.command_reconcile.proofs.Sold.{bills_are, optional_more}
use Rattle.command_reconcile.proofs.day_bills.day_bills.Goals as goal

pub loop-entry-preserved : goal.loop-entry-preserved
loop-entry-preserved c =
    let sold = c.as_slice-sold.result.now in
    optional_more (sale_bill c.args.campaigns.now c.args.bidder c.args.entries.now sold) c.args.entries.now c.loop-entry.entry-index c.entry-item.result c.loop-entry.bills.items c.push_bill.new.bills.items (omega arith) (sym c.entry-item.is)
    c.loop-entry.invariant (c.in_ok-push_bill.ensures ∙ ap (λ (bill : Option Bill). c.loop-entry.bills.items ++ cons_option bill []) c.in_ok-bill.ensures)

pub returns : goal.returns
returns c =
    let sold = c.as_slice-sold.result.now in
    bills_are c.args.campaigns.now c.args.bidder c.args.entries.now sold c.loop-entry.bills.items (c.as_slice-sold.ensures.value ∙ c.in_ok-sales.ensures)
    (c.loop-entry.invariant ∙ ap (filter_map (sale_bill c.args.campaigns.now c.args.bidder c.args.entries.now sold)) (take_all c.loop-entry.entry-index c.args.entries.now (omega arith)))

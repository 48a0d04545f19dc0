-- What one impression more sold.
use Rattle.std.proofs.Common.{◌≡◌, ◌∙◌, ◌++◌, ℕ, List, length, ap, arith}
use Rattle.std.specs.List.{flat_map, range_with_len}
use Rattle.adx_units.specs.declared.offer.Offer.{Offer}
use Rattle.command_reconcile.specs.Sales.{sold_for}
use Rattle.command_reconcile.proofs.Sold.{range_more}
use Rattle.command_reconcile.proofs.day_bills.sell_ask.Goals as goal

pub loop-imp-preserved : goal.loop-imp-preserved
loop-imp-preserved c =
    range_more (sold_for c.args.place c.args.ask.now.offers) c.args.sales.now.items c.loop-imp.imp c.loop-imp.sales.items c.sell_imp.new.sales.items c.loop-imp.invariant
    (c.in_ok-sell_imp.ensures ∙ ap (λ (offers : List Offer). c.loop-imp.sales.items ++ sold_for c.args.place offers c.loop-imp.imp) c.as_slice-offers.ensures)

pub returns : goal.returns
returns c =
    let all : c.loop-imp.imp ≡ length c.args.ask.now.imps = omega arith in
    c.loop-imp.invariant ∙ ap (λ (n : ℕ). c.args.sales.now.items ++ flat_map (sold_for c.args.place c.args.ask.now.offers) (range_with_len 0 n)) all

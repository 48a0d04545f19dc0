-- What one offer more sold.
use Rattle.std.proofs.Common.{◌∙◌, ◌++◌, List, ap, arith}
use Rattle.std.specs.List.{flat_map}
use Rattle.std.proofs.lemmas.List.{take_all}
use Rattle.adx_units.specs.declared.offer.Offer.{Offer}
use Rattle.allocator_core.specs.Choice.{no_offer}
use Rattle.command_reconcile.specs.Sales.{sold_at}
use Rattle.command_reconcile.proofs.Sold.{flat_next}
use Rattle.command_reconcile.proofs.day_bills.sell_imp.Goals as goal

pub loop-offer-preserved : goal.loop-offer-preserved
loop-offer-preserved c =
    flat_next (sold_at c.args.place c.args.imp) c.args.sales.now.items c.args.offers.now c.loop-offer.offer-index no_offer c.loop-offer.sales.items c.sell_offer.new.sales.items (omega arith)
    c.loop-offer.invariant c.in_ok-sell_offer.ensures

pub returns : goal.returns
returns c =
    c.loop-offer.invariant ∙ ap (λ (offers : List Offer). c.args.sales.now.items ++ flat_map (sold_at c.args.place c.args.imp) offers) (take_all c.loop-offer.offer-index c.args.offers.now (omega arith))

use Rattle.std.proofs.Common.{◌≡◌, ◌++◌, take}
use Rattle.std.specs.List.{flat_map}
use Rattle.command_reconcile.specs.Sales.{sold_at}
use Rattle.command_reconcile.proofs.day_bills.sell_imp.Given as goal

abbrev pub invariant-loop-offer : goal.invariant-loop-offer
invariant-loop-offer l = l.sales.items ≡ l.initial.sales.items ++ flat_map (sold_at l.place l.imp) (take l.offer-index l.offers)

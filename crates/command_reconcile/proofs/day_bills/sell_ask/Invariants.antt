use Rattle.std.proofs.Common.{◌≡◌, ◌++◌}
use Rattle.std.specs.List.{flat_map, range_with_len}
use Rattle.command_reconcile.specs.Sales.{sold_for}
use Rattle.command_reconcile.proofs.day_bills.sell_ask.Given as goal

abbrev pub invariant-loop-imp : goal.invariant-loop-imp
invariant-loop-imp l = l.sales.items ≡ l.initial.sales.items ++ flat_map (sold_for l.place l.ask.offers) (range_with_len 0 l.imp)

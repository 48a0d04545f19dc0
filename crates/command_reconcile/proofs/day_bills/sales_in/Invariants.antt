use Rattle.std.proofs.Common.{◌≡◌, take}
use Rattle.std.specs.List.{enumerate_from, flat_map}
use Rattle.command_reconcile.specs.Sales.{sold_by}
use Rattle.command_reconcile.proofs.day_bills.sales_in.Given as goal

abbrev pub invariant-loop-place : goal.invariant-loop-place
invariant-loop-place l = l.sales.items ≡ flat_map sold_by (enumerate_from 0 (take l.place l.entries))

use Rattle.std.proofs.Common.{◌≡◌, take}
use Rattle.std.specs.List.{filter_map}
use Rattle.command_reconcile.specs.Sales.{sale_bill}
use Rattle.command_reconcile.proofs.day_bills.day_bills.Given as goal

abbrev pub invariant-loop-entry : goal.invariant-loop-entry
invariant-loop-entry l = l.bills.items ≡ filter_map (sale_bill l.campaigns l.bidder l.entries l.sold) (take l.entry-index l.entries)

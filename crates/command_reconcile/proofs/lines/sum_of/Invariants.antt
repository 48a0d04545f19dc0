use Rattle.std.proofs.Common.{◌≡◌, ◌*◌, ◌-◌, ◌^◌, ◌≤◌, take}
use Rattle.command_reconcile.specs.Differences.{sum_of as sum_of_bills}
use Rattle.command_reconcile.proofs.lines.sum_of.Given as goal

abbrev pub invariant-loop-bill : goal.invariant-loop-bill
invariant-loop-bill l = record { is : l.sum ≡ sum_of_bills (take l.bill-index l.bills); low : l.sum ≤ l.bill-index * (2 ^ 64 - 1) }

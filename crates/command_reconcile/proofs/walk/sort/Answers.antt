-- Sorted by the order of bills.
use Rattle.std.proofs.Common.{rules}
use Rattle.std.specs.Ordering.{is_lt}
use Rattle.std.proofs.lemmas.List.Sorted.{answers_always, ranks_by}
use Rattle.command_reconcile.specs.Differences.{bill_cmp}
use Rattle.command_reconcile.specs.declared.bill.Bill.{Bill}
use Rattle.command_reconcile.proofs.Least.{rising_sorted}
use Rattle.command_reconcile.proofs.Order.{bill_total}
use Rattle.command_reconcile.proofs.walk.sort.Goals as goal

pub returns-clause-rising : goal.returns-clause-rising
returns-clause-rising c =
    rising_sorted c.sort_unstable_by.new.self.items
    (c.sort_unstable_by.ensures.sorted (λ x y. is_lt (bill_cmp x y)) (ranks_by bill_total (λ (x : Bill). x))
    (answers_always _ (λ a r. _) _ (λ f a r g k. search rules)))

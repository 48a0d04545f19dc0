-- The lists in order have the same differences and sums.
use Rattle.std.proofs.Common.{sym, subst, string_bytes}
use Rattle.std.specs.List.Sorted.{IsPermutation}
use Rattle.command_reconcile.proofs.Written.{reconciled}
use Rattle.command_reconcile.proofs.walk.push_reconciliation.Goals as goal

pub returns : goal.returns
returns c =
    reconciled c.args.exchange.items c.args.bidder.items c.as_slice-ours.result.now c.as_slice-theirs.result.now
    (subst (IsPermutation c.args.exchange.items) (sym c.as_slice-ours.ensures.value) c.sort.ensures.permutation)
    (subst (IsPermutation c.args.bidder.items) (sym c.as_slice-theirs.ensures.value) c.sort-2.ensures.permutation)
    (string_bytes c.args.out.now) (string_bytes c.push_differences.new.out) (string_bytes c.push_sums.new.out) c.in_ok-push_differences.ensures c.in_ok-push_sums.ensures

use Rattle.std.proofs.Common.{◌≡◌, ◌++◌, ◌+◌, List, length, string_bytes}
use Rattle.std.specs.List.{flat_map}
use Rattle.command_reconcile.specs.Differences.{difference_line}
use Rattle.command_reconcile.specs.Walks.{IsWalked}
use Rattle.command_reconcile.specs.declared.bill.Bill.{Bill}
use Rattle.command_reconcile.proofs.walk.push_differences.Given as goal

abbrev pub invariant-pairs : goal.invariant-pairs
invariant-pairs l =
    (differences : List Bill) × IsWalked l.fn.exchange l.fn.bidder l.ours l.theirs differences × (string_bytes l.out ≡ string_bytes l.fn.out ++ flat_map (difference_line l.fn.exchange l.fn.bidder) differences)

abbrev pub decreases-pairs : goal.decreases-pairs
decreases-pairs l = length l.ours + length l.theirs

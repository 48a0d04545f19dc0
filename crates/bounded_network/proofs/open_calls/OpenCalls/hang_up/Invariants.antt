-- No more were hung up than places were looked at.
use Rattle.std.proofs.Common.{◌≤◌}
use Rattle.bounded_network.proofs.open_calls.OpenCalls.hang_up.Given as goal

abbrev pub invariant-places : goal.invariant-places
invariant-places g l = l.count ≤ l.place-index

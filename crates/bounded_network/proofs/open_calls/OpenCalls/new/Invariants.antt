-- So many places were made.
use Rattle.std.proofs.Common.{◌≡◌, vec_len}
use Rattle.bounded_network.proofs.open_calls.OpenCalls.new.Given as goal

abbrev pub invariant-places : goal.invariant-places
invariant-places g l = vec_len l.places ≡ l._made

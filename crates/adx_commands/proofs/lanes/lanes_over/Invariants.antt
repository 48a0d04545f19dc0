use Rattle.std.specs.VecDeque.{deque_len}
use Rattle.adx_commands.proofs.LinkLanes.{AreFilled}
use Rattle.adx_commands.proofs.lanes.lanes_over.Given as goal

-- there are lanes over the links that were taken
abbrev pub invariant-links : goal.invariant-links
invariant-links g l = AreFilled l.fn.places l.fn.links.items l.lanes.items l.left.items

abbrev pub decreases-links : goal.decreases-links
decreases-links g l = deque_len l.left

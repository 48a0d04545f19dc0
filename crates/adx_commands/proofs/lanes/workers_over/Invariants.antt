use Rattle.std.specs.VecDeque.{deque_len}
use Rattle.adx_commands.proofs.LinkLanes.{AreFilledWorkers}
use Rattle.adx_commands.proofs.lanes.workers_over.Given as goal

-- there is a worker over each list that was taken
abbrev pub invariant-lists : goal.invariant-lists
invariant-lists g l = AreFilledWorkers l.fn.places l.fn.lists.items l.workers.items l.left.items

abbrev pub decreases-lists : goal.decreases-lists
decreases-lists g l = deque_len l.left

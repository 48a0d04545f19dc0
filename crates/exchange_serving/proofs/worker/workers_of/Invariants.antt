use Rattle.std.specs.Prelude.{◌≡◌, ◌+◌, All, length, vec_len}
use mathlib.Core.List.{IsPrefix}
use Rattle.exchange_messages.specs.Floors.{AreLanes}
use Rattle.meter_board.specs.Words.{list_read}
use Rattle.exchange_serving.specs.Lanes.{lists_of}
use Rattle.exchange_serving.proofs.worker.workers_of.Given as goal

-- the lists that are left are the first ones, and each other one has a worker
abbrev pub invariant-lists : goal.invariant-lists
invariant-lists g l =
    IsPrefix (lists_of l.lists.items) g.J.DayNames.workers × All (AreLanes l.fn.roster) (lists_of l.lists.items)
    × All (λ r. list_read r ≡ g.J.DayNames.book) l.readers.items
    × (length l.workers.items + length l.lists.items ≡ length l.fn.lists.items)

abbrev pub decreases-lists : goal.decreases-lists
decreases-lists g l = vec_len l.lists

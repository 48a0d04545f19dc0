use Rattle.allocator_core.specs.Choice.{competes, weight_of}
use Rattle.allocator_core.specs.Settling.{budgets_in, standing_beside}
use Rattle.allocator_core.proofs.Lists.{BestIs}
use Rattle.allocator_core.proofs.impression.choose.Given as goal

abbrev pub invariant-loop-place : goal.invariant-loop-place
invariant-loop-place l =
    BestIs (competes (budgets_in l.book) (standing_beside l.book l.offers) l.imp) (weight_of (budgets_in l.book) (standing_beside l.book l.offers)) l.offers l.place l.best

use Rattle.allocator_core.specs.Choice.{competes, weight_of}
use Rattle.allocator_core.specs.Passes.{passed, standing_with}
use Rattle.allocator_core.specs.Settling.{budgets_in}
use Rattle.allocator_core.proofs.Lists.{BestIs, WrittenTo}
use Rattle.allocator_core.proofs.passes.pass.Given as goal

abbrev pub invariant-loop-place : goal.invariant-loop-place
invariant-loop-place l = record {
  written : WrittenTo (passed (budgets_in l.book) (standing_with l.book l.taken) l.imp) l.initial.offers l.offers l.place;
  best : BestIs (competes (budgets_in l.book) (standing_with l.book l.taken) l.imp) (weight_of (budgets_in l.book) (standing_with l.book l.taken)) l.initial.offers l.place l.best;
}

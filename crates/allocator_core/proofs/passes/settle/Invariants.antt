use Rattle.std.proofs.Common.{◌≡◌, ◌≤◌, length}
use Rattle.allocator_core.specs.Choice.{standing_at}
use Rattle.allocator_core.specs.Passes.{settled_below, standing_with}
use Rattle.allocator_core.specs.Settling.{budgets_in, standing_in}
use Rattle.allocator_core.proofs.passes.settle.Given as goal

abbrev pub invariant-loop-imp : goal.invariant-loop-imp
invariant-loop-imp l = record {
  offers : l.offers ≡ settled_below (budgets_in l.book) (standing_in l.book) l.initial.offers l.imp;
  standing : standing_with l.book l.taken ≡ standing_at (budgets_in l.book) (standing_in l.book) l.initial.offers l.imp;
  few : length l.taken ≤ l.imp;
}

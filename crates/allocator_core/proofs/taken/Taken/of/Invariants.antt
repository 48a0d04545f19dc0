use Rattle.std.proofs.Common.{◌≡◌, take}
use Rattle.allocator_core.specs.Passes.{taken_from}
use Rattle.allocator_core.proofs.taken.Taken.of.Given as goal

abbrev pub invariant-loop-take : goal.invariant-loop-take
invariant-loop-take l = l.units ≡ taken_from (take l.take-index l.take-items) l.campaign

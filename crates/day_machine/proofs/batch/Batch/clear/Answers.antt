use Rattle.std.proofs.Common.{arith}
use Rattle.day_machine.proofs.Calls.{no_calls}
use Rattle.day_machine.proofs.batch.Batch.clear.Goals as goal

pub invariant_of-self : goal.invariant_of-self
invariant_of-self c =
    no_calls c.clear.new.self.items c.clear-2.new.self.items _ _ c.clear.ensures.items c.clear-2.ensures.items
    (omega (arith, c.self.invariant.calls_room, c.clear.ensures.capacity)) (omega (arith, c.self.invariant.answers_room, c.clear-2.ensures.capacity))

use Rattle.std.proofs.Common.{arith}
use Rattle.day_machine.proofs.Calls.{no_calls}
use Rattle.day_machine.proofs.batch.Batch.new.Goals as goal

pub invariant_of-result : goal.invariant_of-result
invariant_of-result c =
    no_calls c.in_ok-calls.calls.items c.in_ok-answers.answers.items _ _ c.in_ok-calls.ensures.items c.in_ok-answers.ensures.items
    (omega (arith, c.in_ok-calls.ensures.exact)) (omega (arith, c.in_ok-answers.ensures.exact))

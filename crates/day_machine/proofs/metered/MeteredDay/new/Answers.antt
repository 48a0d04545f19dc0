-- No entry, no step.
use Rattle.day_machine.proofs.MetersKept.{metered_none}
use Rattle.day_machine.proofs.metered.MeteredDay.new.Goals as goal

pub invariant_of-result : goal.invariant_of-result
invariant_of-result c =
    metered_none c.in_ok-day.day c.new-2.result c.new-3.result.items _ c.entries.ensures.legal c.in_ok-day.ensures.history c.new-2.ensures c.new-3.ensures.items

use Rattle.std.proofs.Common.{ap, ◌∙◌}
use Rattle.day_machine.specs.Batches.{BatchState}
use Rattle.day_machine.proofs.Calls.{not_ran, ran_calls}
use Rattle.day_machine.proofs.batch.Batch.run.Goals as goal

pub plan_all-requires-clause-none : goal.plan_all-requires-clause-none
plan_all-requires-clause-none c =
    c.self.invariant.waits (not_ran c.self.inside.ran c.self.inside.answers.items (ap (λ (b : BatchState). b.answers) c.self.view_is ∙ c.requires.waits))

pub invariant_of-self : goal.invariant_of-self
invariant_of-self c =
    ran_calls c.self.inside.calls.items c.self.inside.answers.items c.plan_all.new.answers.items c.self.inside.ran _ _ _ c.self.invariant c.plan_all.ensures.memory

use Rattle.std.proofs.Common.{sym, ap, ◌∙◌, eqb, arith, length}
use Rattle.std.specs.List.{list_any}
use Rattle.day_rules.specs.Laws.{Arrival}
use Rattle.day_machine.specs.Batches.{BatchState}
use Rattle.day_machine.proofs.Calls.{more_calls}
use Rattle.day_machine.proofs.batch.Batch.add.Goals as goal

pub invariant_of-self : goal.invariant_of-self
invariant_of-self c =
    more_calls c.self.inside.calls.items c.push_reserved.new.self.items c.self.inside.answers.items c.self.inside.ran _ _ _ c.args.award c.in-Some.call c.self.invariant
    (omega (arith, c.if-as_slice-ge-BATCH_LIMIT.false, ap length c.as_slice.ensures.value)) (ap (λ (x : Arrival). x.award) c.in-Some.ensures.0)
    (ap (λ (b : BatchState). list_any (λ (x : Arrival). eqb c.args.award x.award) b.calls) c.self.view_is ∙ (sym c.has.ensures ∙ c.if-has.false)) c.push_reserved.ensures.items c.push_reserved.ensures.capacity

-- By the answers of a batch that ran.
use Rattle.std.proofs.Common.{◌∙◌, ap, sym}
use Rattle.day_machine.specs.Batches.{BatchState, answers_in_turn}
use Rattle.day_machine.proofs.Calls.{ran_with}
use Rattle.day_machine.proofs.batch.Batch.commit.Goals as goal

pub commit_all-requires-clause-answers : goal.commit_all-requires-clause-answers
commit_all-requires-clause-answers c =
    let history = c.args.day.now.history in
    c.deref-2.ensures.value
    ∙ (ran_with c.self.inside.ran c.self.inside.answers.items _ (ap (λ (b : BatchState). b.answers) c.self.view_is ∙ c.requires.answers)
    ∙ (ap (λ (b : BatchState). answers_in_turn history b.calls) (sym c.self.view_is) ∙ sym (ap (answers_in_turn history) c.deref.ensures.value)))

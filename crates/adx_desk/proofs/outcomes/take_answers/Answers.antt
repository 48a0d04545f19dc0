-- One answer more was taken.
use Rattle.std.proofs.Common.{[], ◌∷◌, List, Option, ◌+◌, length, refl, sym, ap, ◌∙◌, subst, arith, length-append}
use Rattle.day_rules.specs.declared.answer.Answer.{Answer}
use Rattle.adx_desk.proofs.TakenAnswers.{AreTaken, all_taken, more_taken, none_taken}
use Rattle.adx_desk.proofs.outcomes.take_answers.Goals as goal

pub loop-i-init : goal.loop-i-init
loop-i-init c = record {
  taken = none_taken c.args.batch.now.answers (length c.args.batch.now.calls) c.args.outcomes.now.items c.requires.empty;
  long = ap (λ (l : List (Option Answer)). length l) c.requires.empty;
  room = refl;
}

pub loop-i-preserved : goal.loop-i-preserved
loop-i-preserved c =
    let i = c.loop-i.invariant in
    let more = more_taken c.args.batch.now.answers (length c.args.batch.now.calls) c.loop-i.i c.loop-i.outcomes.items c.answer.result (omega arith) c.answer.ensures i.taken in record {
      taken = subst (λ (l : List (Option Answer)). AreTaken c.args.batch.now.answers (length c.args.batch.now.calls) (c.loop-i.i + 1) l) (sym c.push_reserved.ensures.items) more;
      long = omega (arith, ap (λ (l : List (Option Answer)). length l) c.push_reserved.ensures.items, length-append c.loop-i.outcomes.items (c.answer.result ∷ []), i.long);
      room = c.push_reserved.ensures.capacity ∙ i.room;
    }

pub returns-clause-answers : goal.returns-clause-answers
returns-clause-answers c = all_taken c.args.batch.now.answers (length c.args.batch.now.calls) c.loop-i.i c.loop-i.outcomes.items (omega arith) c.loop-i.invariant.taken

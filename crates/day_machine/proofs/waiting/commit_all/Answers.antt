-- One notice more.
use Rattle.std.proofs.Common.{List, take, get_or, sym, ◌∙◌, ap, subst, arith, length}
use Rattle.std.proofs.lemmas.List.{take_all}
use Rattle.day_rules.specs.declared.answer.Answer.{Answer}
use Rattle.day_rules.specs.declared.entry.Entry.{Entry}
use Rattle.day_rules.specs.Laws.{Arrival, after_arrival, after_arrivals, arrival_reply}
use Rattle.day_rules.specs.Legal.{IsLegal}
use Rattle.day_rules.specs.Terms.{AreTerms, Terms}
use Rattle.day_rules.proofs.Ordering.{arrival_legal}
use Rattle.day_machine.proofs.InTurn.{answer_at, answers_length, arrivals_more}
use Rattle.day_machine.proofs.waiting.commit_all.Goals as goal

pub bounds-answers-place : goal.bounds-answers-place
bounds-answers-place c = omega (arith, c.loop-place-test.true, ap (λ (l : List Answer). length l) c.requires.answers, answers_length c.args.day.now.history c.args.calls.now)

pub commit-left-requires-clause-answer : goal.commit-left-requires-clause-answer
commit-left-requires-clause-answer c =
    let i = c.loop-place.place in
    let xs = c.args.calls.now in
    let x = c.index-calls-place.result in
    let default : Answer = Answer.Awarded 0 in
    ap (λ (l : List Answer). get_or l i default) c.requires.answers
    ∙ (answer_at c.args.day.now.history xs i x default c.loop-place-test.true
    ∙ (ap (λ (y : Arrival). (arrival_reply (after_arrivals c.args.day.now.history (take i xs)) y).answer) (sym c.index-calls-place.is)
    ∙ ap (λ (h : List Entry). (arrival_reply h x).answer) (sym c.loop-place.invariant.history)))

pub loop-place-preserved : goal.loop-place-preserved
loop-place-preserved c =
    let i = c.loop-place.place in
    let xs = c.args.calls.now in
    let x = c.index-calls-place.result in
    let old = c.loop-place.day in
    let new = c.commit-left.new.day in
    let inv = c.loop-place.invariant in
    let terms = c.commit-left.ensures.terms in
    let legal : IsLegal new.terms (after_arrival old.history x) = subst (λ (t : Terms). IsLegal t (after_arrival old.history x)) (sym terms) (arrival_legal old.terms old.history x inv.legal.legal) in
    record {
      terms = terms ∙ inv.terms;
      legal = record {
        terms_ok = subst AreTerms (sym terms) inv.legal.terms_ok;
        legal = subst (λ (h : List Entry). IsLegal new.terms h) (sym c.commit-left.ensures.history) legal;
      };
      history = c.commit-left.ensures.history ∙ (ap (λ (h : List Entry). after_arrival h x) inv.history ∙ sym (arrivals_more c.args.day.now.history xs i x c.loop-place-test.true c.index-calls-place.is));
      counted = c.commit-left.ensures.counted;
    }

pub returns-clause-history : goal.returns-clause-history
returns-clause-history c =
    c.loop-place.invariant.history ∙ ap (after_arrivals c.args.day.now.history) (take_all c.loop-place.place c.args.calls.now (omega (arith, c.loop-place-test.false)))

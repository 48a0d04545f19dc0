-- By the plan, and what its entry's record came to.
use Rattle.std.proofs.Common.{◌≡◌, Option, Some, sym, ◌∙◌, ap, subst}
use Rattle.std.specs.Prelude.{IfOk}
use Rattle.std.proofs.lemmas.Option.{none-some}
use Rattle.day_rules.specs.declared.answer.Answer.{Answer}
use Rattle.day_rules.specs.declared.entry.Entry.{Entry}
use Rattle.day_rules.specs.Legal.{MayFollow}
use Rattle.day_rules.specs.Replies.{ask_reply}
use Rattle.adx_desk.specs.Endings.{EndsAsk}
use Rattle.adx_desk.specs.Journaled.{JournaledState, on_disk}
use Rattle.adx_desk.specs.Serving.{Serves}
use Rattle.adx_desk.proofs.Inside.{follows_in, known, replies}
use Rattle.adx_desk.proofs.Asked.{for_some}
use Rattle.adx_desk.proofs.Serving.{untouched}
use Rattle.adx_desk.proofs.journaled_day.JournaledDay.take_ask.Goals as goal

pub add_planned-requires : goal.add_planned-requires
add_planned-requires g c =
    subst (λ (e : Entry). MayFollow c.args.self.now.desk.terms.day c.args.self.now.desk.history e) (sym c.fitted-exact.ensures)
    (follows_in c.day.result.now c.self.inside.day c.args.self.now.desk c.day.ensures.terms c.day.ensures.history (ap (λ (t : JournaledState). t.desk.terms.day) c.self.view_is) (ap (λ (t : JournaledState). t.desk.history) c.self.view_is) c.in-Some.entry
    (for_some (MayFollow c.day.result.now.terms c.day.result.now.history) c.plan_ask-answer.result.1 c.plan_ask-answer.ensures.legal c.in-Some.entry c.in-Some.is))

pub returns-in-Some-clause-serves : goal.returns-in-Some-clause-serves
returns-in-Some-clause-serves g c =
    let D = g.D.Disk in
    let planned = ap Some c.fitted-exact.ensures ∙ (sym c.in-Some.is ∙ (c.plan_ask-answer.ensures.entry ∙ replies c.day.result.now c.self.inside.day c.args.self.now.desk c.day.ensures.terms c.day.ensures.history (ap (λ (t : JournaledState). t.desk.terms.day) c.self.view_is) (ap (λ (t : JournaledState). t.desk.history) c.self.view_is) (λ t h. (ask_reply t h c.args.ask).entry))) in
    subst (λ (o : Option Entry). Serves D.may_leave D.moment D.left_since (on_disk c.args.self.now c.args.disk.now) (on_disk c.add_planned.new.self c.add_planned.new.disk) o c.add_planned.result) planned c.add_planned.ensures.serves

pub returns-in-Some-clause-ends : goal.returns-in-Some-clause-ends
returns-in-Some-clause-ends g c =
    let D = g.D.Disk in
    let planned = ap Some c.fitted-exact.ensures ∙ (sym c.in-Some.is ∙ (c.plan_ask-answer.ensures.entry ∙ replies c.day.result.now c.self.inside.day c.args.self.now.desk c.day.ensures.terms c.day.ensures.history (ap (λ (t : JournaledState). t.desk.terms.day) c.self.view_is) (ap (λ (t : JournaledState). t.desk.history) c.self.view_is) (λ t h. (ask_reply t h c.args.ask).entry))) in
    subst (λ (o : Option Entry). EndsAsk (D.faults c.args.disk.now) (D.faults c.add_planned.new.disk) c.args.self.now.desk c.add_planned.new.self.desk o c.add_planned.result) planned c.add_planned.ensures.ends

pub returns-in-Some-clause-answer : goal.returns-in-Some-clause-answer
returns-in-Some-clause-answer g c = subst (λ (x : Answer). IfOk c.add_planned.result (λ a. a ≡ x)) (c.plan_ask-answer.ensures.answer ∙ replies c.day.result.now c.self.inside.day c.args.self.now.desk c.day.ensures.terms c.day.ensures.history (ap (λ (t : JournaledState). t.desk.terms.day) c.self.view_is) (ap (λ (t : JournaledState). t.desk.history) c.self.view_is) (λ t h. (ask_reply t h c.args.ask).answer)) c.add_planned.ensures.answer

pub returns-in-Some-clause-unmoved : goal.returns-in-Some-clause-unmoved
returns-in-Some-clause-unmoved g c = λ none. absurd (none-some c.in-Some.entry (sym none ∙ (sym (c.plan_ask-answer.ensures.entry ∙ replies c.day.result.now c.self.inside.day c.args.self.now.desk c.day.ensures.terms c.day.ensures.history (ap (λ (t : JournaledState). t.desk.terms.day) c.self.view_is) (ap (λ (t : JournaledState). t.desk.history) c.self.view_is) (λ t h. (ask_reply t h c.args.ask).entry)) ∙ c.in-Some.is)))

pub returns-in-None-clause-serves : goal.returns-in-None-clause-serves
returns-in-None-clause-serves g c =
    let D = g.D.Disk in
    untouched D.may_leave D.moment D.left_since _ (on_disk c.args.self.now c.args.disk.now) _ (sym (c.plan_ask-answer.ensures.entry ∙ replies c.day.result.now c.self.inside.day c.args.self.now.desk c.day.ensures.terms c.day.ensures.history (ap (λ (t : JournaledState). t.desk.terms.day) c.self.view_is) (ap (λ (t : JournaledState). t.desk.history) c.self.view_is) (λ t h. (ask_reply t h c.args.ask).entry)) ∙ c.in-None.is) (g.met.D.Disk.only_now c.args.disk.now)

pub returns-in-Some-clause-size : goal.returns-in-Some-clause-size
returns-in-Some-clause-size g c = (known c.self.inside.day c.self.inside.digest c.self.inside.journal c.self.inside.faults c.self.inside.without_end c.args.self.now c.self.invariant c.self.view_is).short

pub returns-in-None-clause-size : goal.returns-in-None-clause-size
returns-in-None-clause-size g c = (known c.self.inside.day c.self.inside.digest c.self.inside.journal c.self.inside.faults c.self.inside.without_end c.args.self.now c.self.invariant c.self.view_is).short

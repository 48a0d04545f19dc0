-- By the plan, and what its entry's record came to.
use Rattle.std.proofs.Common.{◌≡◌, List, [], ◌∷◌, ◌++◌, Option, sym, ◌∙◌, ap, subst}
use Rattle.std.specs.Prelude.{Err, IfOk, Ok, OnOk, Result}
use Rattle.std.proofs.lemmas.Option.{none-some}
use Rattle.day_rules.specs.declared.answer.Answer.{Answer}
use Rattle.day_rules.specs.declared.entry.Entry.{Entry}
use Rattle.day_rules.specs.Entries.{asked}
use Rattle.day_rules.specs.Legal.{MayFollow}
use Rattle.day_rules.specs.Replies.{ask_reply}
use Rattle.adx_desk.specs.declared.done.Done.{Done}
use Rattle.adx_desk.specs.declared.fault.DeskFault.{DeskFault}
use Rattle.adx_desk.specs.Asked.{ask_for}
use Rattle.adx_desk.specs.Endings.{EndsAsk}
use Rattle.adx_desk.specs.Journaled.{JournaledState, on_disk}
use Rattle.adx_desk.specs.Serving.{Serves}
use Rattle.adx_desk.proofs.Inside.{follows_in, known, replies}
use Rattle.adx_desk.proofs.Asked.{for_some, reply_speaks}
use Rattle.adx_desk.proofs.Serving.{untouched}
use Rattle.adx_desk.proofs.journaled_day.JournaledDay.ask.Goals as goal

-- the copy is of the ask that the answer speaks of
copied : (r : Result Done DeskFault) (h new : List Entry) (e : Entry) (x : Answer) → IfOk r (λ d. d.answer ≡ x) → IfOk r (λ d. d.ask ≡ asked e) → OnOk r (new ≡ h ++ e ∷ [])
    → ask_for (h ++ e ∷ []) x ≡ asked e → IfOk r (λ d. d.ask ≡ ask_for new d.answer)
copied (Ok d) h new e x answer copy history speaks =
    copy ∙ (sym speaks ∙ (ap (λ (es : List Entry). ask_for es x) (sym history) ∙ ap (ask_for new) (sym answer)))
copied (Err why) h new e x answer copy history speaks = record {}

pub add_ask-requires : goal.add_ask-requires
add_ask-requires g c =
    follows_in c.day.result.now c.self.inside.day c.args.self.now.desk c.day.ensures.terms c.day.ensures.history (ap (λ (t : JournaledState). t.desk.terms.day) c.self.view_is) (ap (λ (t : JournaledState). t.desk.history) c.self.view_is) c.in-Some.entry
    (for_some (MayFollow c.day.result.now.terms c.day.result.now.history) c.plan_ask-answer.result.1 c.plan_ask-answer.ensures.legal c.in-Some.entry c.in-Some.is)

pub returns-in-Some-clause-copy : goal.returns-in-Some-clause-copy
returns-in-Some-clause-copy g c =
    let s : JournaledState = c.args.self.now in
    let answer = c.plan_ask-answer.ensures.answer ∙ replies c.day.result.now c.self.inside.day c.args.self.now.desk c.day.ensures.terms c.day.ensures.history (ap (λ (t : JournaledState). t.desk.terms.day) c.self.view_is) (ap (λ (t : JournaledState). t.desk.history) c.self.view_is) (λ t h. (ask_reply t h c.args.ask).answer) in
    let entry = sym (c.plan_ask-answer.ensures.entry ∙ replies c.day.result.now c.self.inside.day c.args.self.now.desk c.day.ensures.terms c.day.ensures.history (ap (λ (t : JournaledState). t.desk.terms.day) c.self.view_is) (ap (λ (t : JournaledState). t.desk.history) c.self.view_is) (λ t h. (ask_reply t h c.args.ask).entry)) ∙ c.in-Some.is in
    copied c.add_ask.result s.desk.history c.add_ask.new.self.desk.history c.in-Some.entry c.plan_ask-answer.result.0 c.add_ask.ensures.answer c.add_ask.ensures.copy c.add_ask.ensures.serves.history
    (reply_speaks s.desk.terms.day s.desk.history c.args.ask c.plan_ask-answer.result.0 c.in-Some.entry answer entry)

pub returns-in-Some-clause-serves : goal.returns-in-Some-clause-serves
returns-in-Some-clause-serves g c =
    let D = g.D.Disk in
    let planned = sym c.in-Some.is ∙ (c.plan_ask-answer.ensures.entry ∙ replies c.day.result.now c.self.inside.day c.args.self.now.desk c.day.ensures.terms c.day.ensures.history (ap (λ (t : JournaledState). t.desk.terms.day) c.self.view_is) (ap (λ (t : JournaledState). t.desk.history) c.self.view_is) (λ t h. (ask_reply t h c.args.ask).entry)) in
    subst (λ (o : Option Entry). Serves D.may_leave D.moment D.left_since (on_disk c.args.self.now c.args.disk.now) (on_disk c.add_ask.new.self c.add_ask.new.disk) o c.add_ask.result) planned c.add_ask.ensures.serves

pub returns-in-Some-clause-ends : goal.returns-in-Some-clause-ends
returns-in-Some-clause-ends g c =
    let D = g.D.Disk in
    let planned = sym c.in-Some.is ∙ (c.plan_ask-answer.ensures.entry ∙ replies c.day.result.now c.self.inside.day c.args.self.now.desk c.day.ensures.terms c.day.ensures.history (ap (λ (t : JournaledState). t.desk.terms.day) c.self.view_is) (ap (λ (t : JournaledState). t.desk.history) c.self.view_is) (λ t h. (ask_reply t h c.args.ask).entry)) in
    subst (λ (o : Option Entry). EndsAsk (D.faults c.args.disk.now) (D.faults c.add_ask.new.disk) c.args.self.now.desk c.add_ask.new.self.desk o c.add_ask.result) planned c.add_ask.ensures.ends

pub returns-in-Some-clause-answer : goal.returns-in-Some-clause-answer
returns-in-Some-clause-answer g c = subst (λ (x : Answer). IfOk c.add_ask.result (λ d. d.answer ≡ x)) (c.plan_ask-answer.ensures.answer ∙ replies c.day.result.now c.self.inside.day c.args.self.now.desk c.day.ensures.terms c.day.ensures.history (ap (λ (t : JournaledState). t.desk.terms.day) c.self.view_is) (ap (λ (t : JournaledState). t.desk.history) c.self.view_is) (λ t h. (ask_reply t h c.args.ask).answer)) c.add_ask.ensures.answer

pub returns-in-Some-clause-unmoved : goal.returns-in-Some-clause-unmoved
returns-in-Some-clause-unmoved g c = λ none. absurd (none-some c.in-Some.entry (sym none ∙ (sym (c.plan_ask-answer.ensures.entry ∙ replies c.day.result.now c.self.inside.day c.args.self.now.desk c.day.ensures.terms c.day.ensures.history (ap (λ (t : JournaledState). t.desk.terms.day) c.self.view_is) (ap (λ (t : JournaledState). t.desk.history) c.self.view_is) (λ t h. (ask_reply t h c.args.ask).entry)) ∙ c.in-Some.is)))

pub returns-after-copy_for-clause-serves : goal.returns-after-copy_for-clause-serves
returns-after-copy_for-clause-serves g c =
    let D = g.D.Disk in
    untouched D.may_leave D.moment D.left_since _ (on_disk c.args.self.now c.args.disk.now) _ (sym (c.plan_ask-answer.ensures.entry ∙ replies c.day.result.now c.self.inside.day c.args.self.now.desk c.day.ensures.terms c.day.ensures.history (ap (λ (t : JournaledState). t.desk.terms.day) c.self.view_is) (ap (λ (t : JournaledState). t.desk.history) c.self.view_is) (λ t h. (ask_reply t h c.args.ask).entry)) ∙ c.in-None.is) (g.met.D.Disk.only_now c.args.disk.now)

pub returns-in-Some-clause-size : goal.returns-in-Some-clause-size
returns-in-Some-clause-size g c = (known c.self.inside.day c.self.inside.digest c.self.inside.journal c.self.inside.faults c.self.inside.without_end c.args.self.now c.self.invariant c.self.view_is).short

pub returns-after-copy_for-clause-size : goal.returns-after-copy_for-clause-size
returns-after-copy_for-clause-size g c = (known c.self.inside.day c.self.inside.digest c.self.inside.journal c.self.inside.faults c.self.inside.without_end c.args.self.now c.self.invariant c.self.view_is).short

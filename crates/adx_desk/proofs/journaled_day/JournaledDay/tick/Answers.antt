-- By the plan, whose entry is no ask.
use Rattle.std.proofs.Common.{◌≡◌, Option, sym, ◌∙◌, ap, subst}
use Rattle.std.specs.Prelude.{IfOk, IfSome}
use Rattle.day_rules.specs.declared.answer.Answer.{Answer}
use Rattle.day_entries.specs.Entries.{IsNoticeOrMoment}
use Rattle.day_rules.specs.declared.entry.Entry.{Entry}
use Rattle.day_rules.specs.Replies.{tick_reply}
use Rattle.adx_desk.specs.Journaled.{JournaledState, on_disk}
use Rattle.adx_desk.specs.Serving.{Serves}
use Rattle.adx_desk.proofs.Asked.{for_some}
use Rattle.day_machine.proofs.NoticeEntries.{tick_kind}
use Rattle.adx_desk.proofs.journaled_day.JournaledDay.tick.Goals as goal

pub add_notice-requires-clause-no_ask : goal.add_notice-requires-clause-no_ask
add_notice-requires-clause-no_ask g c =
    for_some IsNoticeOrMoment c.plan_tick-answer.result.1
    (subst (λ (o : Option Entry). IfSome o IsNoticeOrMoment) (sym c.plan_tick-answer.ensures.entry) (tick_kind c.self.inside.day.history c.args.now))

pub returns-clause-serves : goal.returns-clause-serves
returns-clause-serves g c =
    let D = g.D.Disk in
    let planned = c.plan_tick-answer.ensures.entry ∙ ap (λ (t : JournaledState). (tick_reply t.desk.history c.args.now).entry) c.self.view_is in
    subst (λ (o : Option Entry). Serves D.may_leave D.moment D.left_since (on_disk c.args.self.now c.args.disk.now) (on_disk c.add_notice.new.self c.add_notice.new.disk) o c.add_notice.result) planned c.add_notice.ensures.serves

pub returns-clause-unmoved : goal.returns-clause-unmoved
returns-clause-unmoved g c = λ none.
    c.add_notice.ensures.unmoved (c.plan_tick-answer.ensures.entry ∙ (ap (λ (t : JournaledState). (tick_reply t.desk.history c.args.now).entry) c.self.view_is ∙ none))

pub returns-clause-answer : goal.returns-clause-answer
returns-clause-answer g c =
    subst (λ (x : Answer). IfOk c.add_notice.result (λ a. a ≡ x))
    (c.plan_tick-answer.ensures.answer ∙ ap (λ (t : JournaledState). (tick_reply t.desk.history c.args.now).answer) c.self.view_is) c.add_notice.ensures.answer

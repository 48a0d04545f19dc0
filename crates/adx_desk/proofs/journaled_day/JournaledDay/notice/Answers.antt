-- By the plan, whose entry is no ask.
use Rattle.std.proofs.Common.{Option, sym, ◌∙◌, ap, subst}
use Rattle.std.specs.Prelude.{IfSome}
use Rattle.day_entries.specs.Entries.{IsNoticeOrMoment}
use Rattle.day_rules.specs.declared.entry.Entry.{Entry}
use Rattle.day_rules.specs.Replies.{notice_reply}
use Rattle.adx_desk.specs.Journaled.{JournaledState, on_disk}
use Rattle.adx_desk.specs.Serving.{Serves}
use Rattle.adx_desk.proofs.Asked.{for_some}
use Rattle.day_machine.proofs.NoticeEntries.{notice_kind}
use Rattle.adx_desk.proofs.journaled_day.JournaledDay.notice.Goals as goal

pub add_notice-requires-clause-no_ask : goal.add_notice-requires-clause-no_ask
add_notice-requires-clause-no_ask g c =
    for_some IsNoticeOrMoment c.plan_notice-answer.result.1
    (subst (λ (o : Option Entry). IfSome o IsNoticeOrMoment) (sym c.plan_notice-answer.ensures.entry) (notice_kind c.self.inside.day.history c.args.kind c.args.auction.now c.args.award))

pub returns-clause-serves : goal.returns-clause-serves
returns-clause-serves g c =
    let D = g.D.Disk in
    let planned = c.plan_notice-answer.ensures.entry ∙ ap (λ (t : JournaledState). (notice_reply t.desk.history c.args.kind c.args.auction.now c.args.award).entry) c.self.view_is in
    subst (λ (o : Option Entry). Serves D.may_leave D.moment D.left_since (on_disk c.args.self.now c.args.disk.now) (on_disk c.add_notice.new.self c.add_notice.new.disk) o c.add_notice.result) planned c.add_notice.ensures.serves

pub returns-clause-unmoved : goal.returns-clause-unmoved
returns-clause-unmoved g c = λ none.
    c.add_notice.ensures.unmoved (c.plan_notice-answer.ensures.entry ∙ (ap (λ (t : JournaledState). (notice_reply t.desk.history c.args.kind c.args.auction.now c.args.award).entry) c.self.view_is ∙ none))

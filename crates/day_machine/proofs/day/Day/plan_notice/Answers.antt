-- The entry of a reply is known by its answer.
use Rattle.std.proofs.Common.{◌≡◌, Bool, Option, ◌∙◌, ap, sym, subst}
use Rattle.std.specs.Prelude.{IfSome}
use Rattle.day_rules.specs.declared.answer.Answer.{Answer}
use Rattle.day_rules.specs.declared.entry.Entry.{Entry}
use Rattle.day_rules.specs.DayState.{HasRoomFor}
use Rattle.day_rules.specs.Legal.{MayFollow}
use Rattle.day_rules.specs.Replies.{notice_reply}
use Rattle.day_rules.proofs.Following.{notice_follows}
use Rattle.day_machine.specs.Answered.{entry_if, is_counted}
use Rattle.day_machine.proofs.MetersKept.{notice_room}
use Rattle.day_machine.proofs.NoticeEntries.{counted_entry}
use Rattle.day_machine.proofs.day.Day.plan_notice.Goals as goal

pub returns-clause-entry : goal.returns-clause-entry
returns-clause-entry c =
    c.entry_if-entry.ensures
    ∙ (ap (λ (b : Bool). entry_if b c.args.kind c.args.award) (c.is_counted.ensures ∙ ap (λ (a : Answer). is_counted a) c.answer_notice-answer.ensures)
    ∙ counted_entry c.args.self.now.history c.args.kind c.args.auction.now c.args.award)

pub returns-clause-legal : goal.returns-clause-legal
returns-clause-legal c =
    let is : c.entry_if-entry.result ≡ (notice_reply c.args.self.now.history c.args.kind c.args.auction.now c.args.award).entry = returns-clause-entry c in
    subst (λ (o : Option Entry). IfSome o (MayFollow c.args.self.now.terms c.args.self.now.history)) (sym is) (notice_follows c.args.self.now.terms c.args.self.now.history c.args.kind c.args.auction.now c.args.award)

pub returns-clause-room : goal.returns-clause-room
returns-clause-room c =
    let is : c.entry_if-entry.result ≡ (notice_reply c.args.self.now.history c.args.kind c.args.auction.now c.args.award).entry = returns-clause-entry c in
    subst (λ (o : Option Entry). IfSome o (HasRoomFor c.args.self.now)) (sym is) (notice_room c.args.self.now c.args.self.now.history c.args.kind c.args.auction.now c.args.award)

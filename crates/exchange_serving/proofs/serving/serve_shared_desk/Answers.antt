use Rattle.std.proofs.Common.{sym, ap, ◌∙◌, subst}
use Rattle.adx_links.specs.Told.{told_by}
use Rattle.shared_desk.specs.Callers.{DeskPass}
use Rattle.exchange_serving.specs.Unserved.{LeavesPost}
use Rattle.exchange_serving.proofs.Begun.{tended_to}
use Rattle.exchange_serving.proofs.Days.{begins_history, day_served, few_followed, leaves_post, left_named, posted_by}
use Rattle.exchange_serving.proofs.Finished.{not_short}
use Rattle.exchange_serving.proofs.serving.serve_shared_desk.Goals as goal

pub open-requires-clause-named : goal.open-requires-clause-named
open-requires-clause-named g c = c.requires.board

pub open-requires-2-clause-tended : goal.open-requires-2-clause-tended
open-requires-2-clause-tended g c = tended_to g.L.Link c.args.first g.J.DayNames.first c.args.mail_pass g.J.DayNames.link c.args.mail c.requires.first c.requires.mail_idle c.requires.link c.requires.mail

pub close_desk-desk-requires-clause-first : goal.close_desk-desk-requires-clause-first
close_desk-desk-requires-clause-first g c = let l = c.in-Some.ensures.left in (l.later.turnstile ∙ c.requires.of.0, l.later.fixed ∙ c.requires.of.1)

pub close_desk-desk-requires-clause-is_first : goal.close_desk-desk-requires-clause-is_first
close_desk-desk-requires-clause-is_first g c = c.in-Some.ensures.left.later.is_first

pub close_desk-desk-requires-clause-out : goal.close_desk-desk-requires-clause-out
close_desk-desk-requires-clause-out g c = c.in-Some.ensures.left.pass_out

pub close_desk-desk-requires-clause-one : goal.close_desk-desk-requires-clause-one
close_desk-desk-requires-clause-one g c = let i = c.into_pass-board_pass.ensures.idle in (i.turnstile ∙ c.requires.of.0, i.fixed ∙ c.requires.of.1)

pub close_desk-desk-requires-clause-other : goal.close_desk-desk-requires-clause-other
close_desk-desk-requires-clause-other g c = let i = c.leave-mail.ensures.idle in (i.turnstile ∙ c.requires.of.0, i.fixed ∙ c.requires.of.1)

pub close_desk-desk-requires-clause-other_split : goal.close_desk-desk-requires-clause-other_split
close_desk-desk-requires-clause-other_split g c = c.leave-mail.ensures.idle.split

pub finish-requires : goal.finish-requires
finish-requires g c = record {
  few =
      few_followed g.L.Link g.J.DayNames.link c.leave-mail.result.1.seen c.close_desk-desk.result.desk.history c.leave-mail.result.0 c.leave-mail.ensures.tended
      (begins_history c.args.shared.fixed c.in-Some.ran.0.pass c.into_pass-board_pass.result c.leave-mail.result.1 c.close_desk-desk.result.desk.history c.close_desk-desk.result.desk.faults c.close_desk-desk.ensures.closes);
}

pub returns-in-Some-clause-serves : goal.returns-in-Some-clause-serves
returns-in-Some-clause-serves g c = λ opened history opened_is.
    let told = told_by g.A.Acceptor g.A.In.Source g.A.Out.Sink in
    let left = c.in-Some.ran.0 in let desk = c.close_desk-desk.result in let closed = c.close_desk-desk.ensures in let f = c.finish.ensures in let mail = c.leave-mail in
    let front = begins_history c.args.shared.fixed left.pass c.into_pass-board_pass.result mail.result.1 desk.desk.history desk.desk.faults closed.closes in
    day_served g.L.Link g.D.Disk (g.C.Clock.moment c.args.clock.now) g.J.DayNames.roster c.args.roster.now _ c.args.first left.pass c.into_pass-board_pass.result mail.result.1 c.args.shared.fixed
    opened desk c.finish.result.disk (told c.args.acceptor) (told c.finish.result.acceptor) c.args.mail.link c.finish.result.post left.intake left.wanting c.finish.result.ending
    c.requires.roster c.requires.opened c.requires.opening history opened_is
    (left_named g.L.Link g.J.DayNames.moment (g.C.Clock.moment c.args.clock.now) g.J.DayNames.roster g.J.DayNames.workers _ g.J.DayNames.first c.args.first g.J.DayNames.faults (g.A.Acceptor.faults c.args.acceptor) (told left.acceptor) (told c.finish.result.acceptor) left.pass left.intake left.wanting
    c.requires.clock c.requires.workers (sym c.requires.first) (sym c.requires.faults) (ap told (sym f.acceptor)) c.in-Some.ensures.left)
    c.into_pass-board_pass.ensures.idle.none mail.ensures.idle.none closed.closes closed.opened f.tells f.stands f.within f.none
    (posted_by g.L.Link g.J.DayNames.link c.args.mail.link mail.result.1.seen desk.desk.history mail.result.0 c.finish.result.post c.finish.result.ending c.requires.link mail.ensures.tended front f.posts)

pub returns-in-None-clause-lost : goal.returns-in-None-clause-lost
returns-in-None-clause-lost g c =
    let rest = c.leave-rest in
    subst (λ (p : DeskPass). LeavesPost g.L.Link c.args.roster.now p.seen c.args.mail.link rest.result.0.link) (sym c.requires.first)
    (leaves_post g.L.Link c.args.shared.fixed c.args.roster.now g.J.DayNames.link c.args.mail.link g.J.DayNames.first rest.result.1 rest.result.0
    c.requires.opened c.requires.link rest.ensures.idle c.recall.ensures.right rest.ensures.tended)

pub returns-in-Some-clause-workers : goal.returns-in-Some-clause-workers
returns-in-Some-clause-workers g c = λ some. c.finish.ensures.workers ∙ c.in-Some.ensures.many (not_short c.in-Some.ran.0.wanting c.finish.result.ending c.finish.ensures.tells.short_is some)

-- The desk was called, and its answer written or not.
use Rattle.std.proofs.Common.{None, string_bytes}
use Rattle.day_rules.specs.Replies.{notice}
use Rattle.adx_desk.specs.Answering.{LeavesCall}
use Rattle.history_runs.proofs.AnsweredCalls.{answered_done, answered_fault}
use Rattle.adx_desk.proofs.ToldAnswers.{on_err, notice_about}
use Rattle.adx_desk.proofs.DeskCalls.{call_done, done_unwritten, notice_given_up, notice_unwritten}
use Rattle.command_day.proofs.answering.answer_notice.Goals as goal

pub returns-in_ok-push_told-in-Ok-clause-answered : goal.returns-in_ok-push_told-in-Ok-clause-answered
returns-in_ok-push_told-in-Ok-clause-answered g c =
    let old = c.args.desk.now in
    let new = c.notice.new.self in
    let s = rw c.as_str.ensures.value at c.in-Ok.ensures.serves in
    answered_done g.D.Disk.faults g.D.Disk.may_leave g.D.Disk.moment g.D.Disk.left_since c.args.campaigns.now old new (notice c.args.notice.now.kind c.args.notice.now.auction c.args.notice.now.award) c.in-Ok.answer None (string_bytes c.args.out.now) (string_bytes c.push_told.new.out)
    (call_done g.D.Disk.faults g.D.Disk.may_leave g.D.Disk.moment g.D.Disk.left_since old new (notice c.args.notice.now.kind c.args.notice.now.auction c.args.notice.now.award) c.in-Ok.answer tt s c.in-Ok.ensures.ends) (rw c.as_str.ensures.value at c.in-Ok.ensures.answer)
    (notice_about old.desk.terms.day old.desk.history new.desk.history c.args.notice.now.kind c.args.notice.now.auction c.args.notice.now.award c.in-Ok.answer (rw c.as_str.ensures.value at c.in-Ok.ensures.answer) s.history) c.in_ok-push_told-in-Ok.ensures

pub returns-in_err-push_told-in-Ok-clause-unwritten : goal.returns-in_err-push_told-in-Ok-clause-unwritten
returns-in_err-push_told-in-Ok-clause-unwritten g c =
    let old = c.args.desk.now in
    let new = c.notice.new.self in
    on_err c.from_residual.result (LeavesCall g.D.Disk.faults g.D.Disk.may_leave g.D.Disk.moment g.D.Disk.left_since old new (notice c.args.notice.now.kind c.args.notice.now.auction c.args.notice.now.award))
    (done_unwritten g.D.Disk.faults g.D.Disk.may_leave g.D.Disk.moment g.D.Disk.left_since old new (notice c.args.notice.now.kind c.args.notice.now.auction c.args.notice.now.award) c.in-Ok.answer tt (rw c.as_str.ensures.value at c.in-Ok.ensures.serves) c.in-Ok.ensures.ends)

pub returns-in_ok-push_given_up-in-Err-clause-answered : goal.returns-in_ok-push_given_up-in-Err-clause-answered
returns-in_ok-push_given_up-in-Err-clause-answered g c =
    let old = c.args.desk.now in
    let new = c.notice.new.self in
    let told = c.in_ok-push_given_up-in-Err.ensures in
    answered_fault g.D.Disk.faults g.D.Disk.may_leave g.D.Disk.moment g.D.Disk.left_since c.args.campaigns.now old new (notice c.args.notice.now.kind c.args.notice.now.auction c.args.notice.now.award) told.0 (string_bytes c.args.out.now) (string_bytes c.push_given_up.new.out)
    (notice_given_up g.D.Disk.faults g.D.Disk.may_leave g.D.Disk.moment g.D.Disk.left_since old new (notice c.args.notice.now.kind c.args.notice.now.auction c.args.notice.now.award) c.in-Err.fault told.0 told.1 tt (rw c.as_str.ensures.value at c.in-Err.ensures.serves) c.in-Err.ensures.ends) told.2

pub returns-in_err-push_given_up-in-Err-clause-unwritten : goal.returns-in_err-push_given_up-in-Err-clause-unwritten
returns-in_err-push_given_up-in-Err-clause-unwritten g c =
    let old = c.args.desk.now in
    let new = c.notice.new.self in
    on_err c.from_residual-in_err-push_given_up-in-Err.result (LeavesCall g.D.Disk.faults g.D.Disk.may_leave g.D.Disk.moment g.D.Disk.left_since old new (notice c.args.notice.now.kind c.args.notice.now.auction c.args.notice.now.award))
    (notice_unwritten g.D.Disk.faults g.D.Disk.may_leave g.D.Disk.moment g.D.Disk.left_since old new (notice c.args.notice.now.kind c.args.notice.now.auction c.args.notice.now.award) c.in-Err.fault tt (rw c.as_str.ensures.value at c.in-Err.ensures.serves) c.in-Err.ensures.ends)

-- The desk was called, and its answer written or not.
use Rattle.std.proofs.Common.{None, string_bytes}
use Rattle.day_rules.specs.Replies.{set_budget}
use Rattle.script_lines.specs.Changes.{change_told}
use Rattle.adx_desk.specs.Answering.{LeavesCall}
use Rattle.history_runs.proofs.AnsweredCalls.{answered_done, answered_fault}
use Rattle.adx_desk.proofs.ToldAnswers.{change_about, on_err}
use Rattle.adx_desk.proofs.DeskCalls.{ask_given_up, ask_unwritten, call_done, done_unwritten}
use Rattle.command_day.proofs.answering.answer_change.Goals as goal

pub returns-in_ok-push_told-in-Ok-clause-answered : goal.returns-in_ok-push_told-in-Ok-clause-answered
returns-in_ok-push_told-in-Ok-clause-answered g c =
    let old = c.args.desk.now in
    let new = c.set_budget.new.self in
    let answer = c.in-Ok.answer in
    answered_done g.D.Disk.faults g.D.Disk.may_leave g.D.Disk.moment g.D.Disk.left_since c.args.campaigns.now old new (set_budget (change_told c.args.change)) answer None (string_bytes c.args.out.now) (string_bytes c.push_told.new.out)
    (call_done g.D.Disk.faults g.D.Disk.may_leave g.D.Disk.moment g.D.Disk.left_since old new (set_budget (change_told c.args.change)) answer c.requires c.in-Ok.ensures.serves c.in-Ok.ensures.ends.1) c.in-Ok.ensures.answer
    (change_about old.desk.terms.day old.desk.history new.desk.history (change_told c.args.change) answer c.in-Ok.ensures.answer c.in-Ok.ensures.serves.history) c.in_ok-push_told-in-Ok.ensures

pub returns-in_err-push_told-in-Ok-clause-unwritten : goal.returns-in_err-push_told-in-Ok-clause-unwritten
returns-in_err-push_told-in-Ok-clause-unwritten g c =
    let old = c.args.desk.now in
    let new = c.set_budget.new.self in
    on_err c.from_residual.result (LeavesCall g.D.Disk.faults g.D.Disk.may_leave g.D.Disk.moment g.D.Disk.left_since old new (set_budget (change_told c.args.change)))
    (done_unwritten g.D.Disk.faults g.D.Disk.may_leave g.D.Disk.moment g.D.Disk.left_since old new (set_budget (change_told c.args.change)) c.in-Ok.answer c.requires c.in-Ok.ensures.serves c.in-Ok.ensures.ends.1)

pub returns-in_ok-push_given_up-in-Err-clause-answered : goal.returns-in_ok-push_given_up-in-Err-clause-answered
returns-in_ok-push_given_up-in-Err-clause-answered g c =
    let old = c.args.desk.now in
    let new = c.set_budget.new.self in
    let told = c.in_ok-push_given_up-in-Err.ensures in
    answered_fault g.D.Disk.faults g.D.Disk.may_leave g.D.Disk.moment g.D.Disk.left_since c.args.campaigns.now old new (set_budget (change_told c.args.change)) told.0 (string_bytes c.args.out.now) (string_bytes c.push_given_up.new.out)
    (ask_given_up g.D.Disk.faults g.D.Disk.may_leave g.D.Disk.moment g.D.Disk.left_since old new (set_budget (change_told c.args.change)) c.in-Err.fault told.0 told.1 c.requires tt c.in-Err.ensures.serves c.in-Err.ensures.ends c.in-Err.ensures.refused c.in-Err.ensures.size) told.2

pub returns-in_err-push_given_up-in-Err-clause-unwritten : goal.returns-in_err-push_given_up-in-Err-clause-unwritten
returns-in_err-push_given_up-in-Err-clause-unwritten g c =
    let old = c.args.desk.now in
    let new = c.set_budget.new.self in
    on_err c.from_residual-in_err-push_given_up-in-Err.result (LeavesCall g.D.Disk.faults g.D.Disk.may_leave g.D.Disk.moment g.D.Disk.left_since old new (set_budget (change_told c.args.change)))
    (ask_unwritten g.D.Disk.faults g.D.Disk.may_leave g.D.Disk.moment g.D.Disk.left_since old new (set_budget (change_told c.args.change)) c.in-Err.fault c.requires c.in-Err.ensures.serves c.in-Err.ensures.ends c.in-Err.ensures.refused)

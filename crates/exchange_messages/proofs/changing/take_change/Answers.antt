-- The desk was called, and its reply was written or not.
use Rattle.std.proofs.Common.{string_bytes, sym}
use Rattle.std.proofs.lemmas.Result.{IfOk-weaker}
use Rattle.day_rules.specs.Replies.{set_budget}
use Rattle.adx_desk.specs.Called.{was_done}
use Rattle.adx_desk.specs.DayDesks.{ended_by}
use Rattle.adx_desk.proofs.ToldAnswers.{on_err}
use Rattle.script_lines.specs.Changes.{change_told}
use Rattle.exchange_messages.proofs.AskCalls.{call_left, change_taken, fault_taken}
use Rattle.exchange_messages.specs.Courses.{reply_of}
use Rattle.exchange_messages.proofs.changing.take_change.Goals as goal

pub returns-in-Ok-clause-taken : goal.returns-in-Ok-clause-taken
returns-in-Ok-clause-taken g c =
    let y = g.Y.DayDesk in
    IfOk-weaker c.answer_done.result _ _
    (λ a replied. change_taken y.runs c.args.roster.now (y.terms c.args.desk.now) c.args.desk.now c.set_budget.new.self (change_told c.args.change) c.in-Ok.answer (reply_of a (string_bytes c.answer_done.new.out)) c.requires.terms c.in-Ok.ensures.done replied)
    c.answer_done.ensures

pub returns-in-Ok-clause-left : goal.returns-in-Ok-clause-left
returns-in-Ok-clause-left g c = on_err c.answer_done.result _ (call_left g.Y.DayDesk.runs c.args.roster.now c.args.desk.now c.set_budget.new.self (set_budget (change_told c.args.change)) was_done c.in-Ok.ensures.done)

pub returns-in-Some-clause-taken : goal.returns-in-Some-clause-taken
returns-in-Some-clause-taken g c =
    IfOk-weaker c.answer_fault.result _ _
    (λ a replied. fault_taken g.Y.DayDesk.runs c.args.roster.now c.args.desk.now c.set_budget.new.self (set_budget (change_told c.args.change)) c.in-Err.fault c.in-Some.told (reply_of a (string_bytes c.answer_fault.new.out)) (sym c.in-Some.ensures) c.in-Err.ensures.failed replied)
    c.answer_fault.ensures

pub returns-in-Some-clause-left : goal.returns-in-Some-clause-left
returns-in-Some-clause-left g c = on_err c.answer_fault.result _ (call_left g.Y.DayDesk.runs c.args.roster.now c.args.desk.now c.set_budget.new.self (set_budget (change_told c.args.change)) (ended_by c.in-Err.fault) c.in-Err.ensures.failed)

pub returns-in-None-clause-left : goal.returns-in-None-clause-left
returns-in-None-clause-left g c = call_left g.Y.DayDesk.runs c.args.roster.now c.args.desk.now c.set_budget.new.self (set_budget (change_told c.args.change)) (ended_by c.in-Err.fault) c.in-Err.ensures.failed

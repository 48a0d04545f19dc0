-- The desk was asked, and its reply was written or not.
use Rattle.std.proofs.Common.{Option, string_bytes, subst, sym}
use Rattle.std.proofs.lemmas.Result.{IfOk-weaker}
use Rattle.day_rules.specs.declared.ask.Ask.{Ask}
use Rattle.day_rules.specs.Replies.{ask}
use Rattle.adx_desk.proofs.ToldAnswers.{on_err}
use Rattle.adx_desk.specs.DayDesks.{ended_by}
use Rattle.adx_desk.specs.Called.{was_done}
use Rattle.exchange_messages.proofs.AskCalls.{ask_taken, call_left, done_fits, fault_taken, formed_here}
use Rattle.exchange_messages.specs.Courses.{reply_of}
use Rattle.exchange_messages.specs.Turns.{AnswerReplies}
use Rattle.exchange_messages.proofs.asking.take_ask.Goals as goal

pub ask-requires-clause-formed : goal.ask-requires-clause-formed
ask-requires-clause-formed g c = formed_here (g.Y.DayDesk.terms c.args.desk.now) c.args.roster.now c.args.ask c.requires.terms c.requires.well_formed

pub answer_done-requires-clause-told : goal.answer_done-requires-clause-told
answer_done-requires-clause-told g c =
    let y = g.Y.DayDesk in
    let old = c.args.desk.now in
    done_fits y.runs c.args.roster.now y.way y.seen (y.terms old) old c.ask.new.self c.args.ask c.in-Ok.done c.as_ref.result (λ steps ran. g.met.Y.DayDesk.along old c.ask.new.self steps ran) c.requires.terms c.in-Ok.ensures.done c.as_ref.ensures.value

pub returns-in-Ok-clause-taken : goal.returns-in-Ok-clause-taken
returns-in-Ok-clause-taken g c =
    let y = g.Y.DayDesk in
    IfOk-weaker c.answer_done.result _ _
    (λ a replied. ask_taken y.runs c.args.roster.now (y.terms c.args.desk.now) c.args.desk.now c.ask.new.self c.args.ask c.in-Ok.done (reply_of a (string_bytes c.answer_done.new.out)) c.requires.terms c.in-Ok.ensures.done
    (subst (λ (o : Option Ask). AnswerReplies c.args.roster.now c.in-Ok.done.answer o (reply_of a (string_bytes c.answer_done.new.out))) c.as_ref.ensures.value replied))
    c.answer_done.ensures

pub returns-in-Ok-clause-left : goal.returns-in-Ok-clause-left
returns-in-Ok-clause-left g c = on_err c.answer_done.result _ (call_left g.Y.DayDesk.runs c.args.roster.now c.args.desk.now c.ask.new.self (ask c.args.ask) was_done c.in-Ok.ensures.done)

pub returns-in-Some-clause-taken : goal.returns-in-Some-clause-taken
returns-in-Some-clause-taken g c =
    IfOk-weaker c.answer_fault.result _ _
    (λ a replied. fault_taken g.Y.DayDesk.runs c.args.roster.now c.args.desk.now c.ask.new.self (ask c.args.ask) c.in-Err.fault c.in-Some.told (reply_of a (string_bytes c.answer_fault.new.out)) (sym c.in-Some.ensures) c.in-Err.ensures.failed replied)
    c.answer_fault.ensures

pub returns-in-Some-clause-left : goal.returns-in-Some-clause-left
returns-in-Some-clause-left g c = on_err c.answer_fault.result _ (call_left g.Y.DayDesk.runs c.args.roster.now c.args.desk.now c.ask.new.self (ask c.args.ask) (ended_by c.in-Err.fault) c.in-Err.ensures.failed)

pub returns-in-None-clause-left : goal.returns-in-None-clause-left
returns-in-None-clause-left g c = call_left g.Y.DayDesk.runs c.args.roster.now c.args.desk.now c.ask.new.self (ask c.args.ask) (ended_by c.in-Err.fault) c.in-Err.ensures.failed

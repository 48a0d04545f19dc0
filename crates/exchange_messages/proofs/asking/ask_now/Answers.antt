-- The tick, and the ask after it.
use Rattle.std.proofs.Common.{inl, inr, ◌∙◌, string_bytes}
use Rattle.std.proofs.lemmas.Result.{IfOk-weaker}
use Rattle.adx_desk.proofs.ToldAnswers.{on_err}
use Rattle.exchange_messages.proofs.AskCalls.{asked_ticked, asked_unticked, err_on, stopped_ticked, stopped_unticked}
use Rattle.exchange_messages.specs.Floors.{IsMomentOf}
use Rattle.exchange_messages.specs.Courses.{reply_of}
use Rattle.exchange_messages.proofs.asking.ask_now.Goals as goal

pub take_ask-requires-clause-terms : goal.take_ask-requires-clause-terms
take_ask-requires-clause-terms g c = g.met.Y.DayDesk.same c.args.desk.now c.tick.new.self _ c.in-Ok.ensures.done.1 ∙ c.requires.terms

pub returns-in_err-ask-clause-stopped : goal.returns-in_err-ask-clause-stopped
returns-in_err-ask-clause-stopped g c = on_err c.from_residual.result _ (inr (g.met.Y.DayDesk.none c.args.desk.now))

pub returns-in-Ok-clause-asked : goal.returns-in-Ok-clause-asked
returns-in-Ok-clause-asked g c =
    let clock = c.now-now.ensures in
    IfOk-weaker c.take_ask.result _ _
    (λ a taken. asked_ticked g.Y.DayDesk.runs c.args.roster.now g.met.Y.DayDesk.join (IsMomentOf (g.C.Clock.moment c.args.clock.now)) c.args.request.now c.args.answers.items c.args.desk.now c.tick.new.self c.take_ask.new.desk c.now-now.result c.in_ok-ask.ask
    (reply_of a (string_bytes c.take_ask.new.out)) (clock.within, clock.told) c.in_ok-ask.ensures.gives c.in-Ok.ensures.done taken)
    c.take_ask.ensures.taken

pub returns-in-Ok-clause-stopped : goal.returns-in-Ok-clause-stopped
returns-in-Ok-clause-stopped g c =
    let clock = c.now-now.ensures in
    err_on c.take_ask.result _ _
    (λ left. inl (stopped_ticked g.Y.DayDesk.runs c.args.roster.now g.met.Y.DayDesk.join (IsMomentOf (g.C.Clock.moment c.args.clock.now)) c.args.request.now c.args.answers.items c.args.desk.now c.tick.new.self c.take_ask.new.desk c.now-now.result c.in_ok-ask.ask
    (clock.within, clock.told) c.in_ok-ask.ensures.gives c.in-Ok.ensures.done left))
    c.take_ask.ensures.left

pub returns-in-Err-clause-asked : goal.returns-in-Err-clause-asked
returns-in-Err-clause-asked g c =
    let clock = c.now-now.ensures in
    IfOk-weaker c.answer_tick_fault.result _ _
    (λ a replied. asked_unticked g.Y.DayDesk.runs c.args.roster.now g.met.Y.DayDesk.join (IsMomentOf (g.C.Clock.moment c.args.clock.now)) c.args.request.now c.args.answers.items c.args.desk.now c.tick.new.self c.now-now.result
    (reply_of a (string_bytes c.answer_tick_fault.new.out)) (clock.within, clock.told) c.in-Err.ensures.failed replied)
    c.answer_tick_fault.ensures

pub returns-in-Err-clause-stopped : goal.returns-in-Err-clause-stopped
returns-in-Err-clause-stopped g c =
    let clock = c.now-now.ensures in
    on_err c.answer_tick_fault.result _
    (inl (stopped_unticked g.Y.DayDesk.runs c.args.roster.now g.met.Y.DayDesk.join (IsMomentOf (g.C.Clock.moment c.args.clock.now)) c.args.request.now c.args.answers.items c.args.desk.now c.tick.new.self c.now-now.result (clock.within, clock.told) c.in-Err.ensures.failed))

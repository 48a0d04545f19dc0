-- What the connection answered is the next message, the end, or a fault.
use Rattle.std.proofs.Common.{◌≡◌, ℕ, suc, List, ◌++◌, Option, Result, None, Ok, Err, IfOk, IsNone, false, sym, ap, ◌∙◌, subst}
use Rattle.adx_io.specs.Streams.{Tape, WhereTold}
use Rattle.http_connection.specs.Answers.{AnswersMessage, GivesMessage}
use Rattle.http_connection.specs.Messages.{IsUnfinishedRequest}
use Rattle.http_connection.specs.declared.conn.Message.{Message}
use Rattle.http_grammar.specs.declared.fault.HttpFault.{HttpFault}
use Rattle.http_service.specs.Steps.{BringsOne}
use Rattle.exchange_http.specs.Running.{StepCauses, StepGives}
use Rattle.exchange_messages.specs.Floors.{IsMomentOf}
use Rattle.fan_out.specs.Lanes.{works}
use Rattle.exchange_http.specs.declared.over.Over.{Over}
use Rattle.exchange_http.specs.declared.stop.Stop.{Stop}
use Rattle.exchange_http.proofs.Causes.{fault_causes, faults_over, settled_sunk, sound_any, step_causes}
use Rattle.exchange_http.proofs.Comings.{brings_one}
use Rattle.exchange_http.proofs.Nexts.{ends_there, fault_gives}
use Rattle.exchange_http.proofs.messages.read_next.Goals as goal

pub returns-in-Ok-Some-clause-gives : goal.returns-in-Ok-Some-clause-gives
returns-in-Ok-Some-clause-gives g c =
    let answers = (subst (λ (r : Result (Option Message) HttpFault). AnswersMessage c.args.conn.now c.next_message.follows.lender-at-none (g.S.Source.tape c.args.source.now) (g.S.Source.tape c.next_message.new.source) r) (c.in-Ok-Some.is ∙ ap Ok c.in-Ok-Some.field-0-is) c.next_message.follows.holds-at-none) in
    let one = brings_one c.args.conn.now c.next_message.follows.lender-at-none (g.S.Source.tape c.args.source.now) (g.S.Source.tape c.next_message.new.source) c.in-Ok-Some.message c.requires.sound answers in
    let brings = subst (λ (n : ℕ). BringsOne n c.args.conn.now.held c.next_message.follows.lender-at-none.held (g.S.Source.tape c.args.source.now) (g.S.Source.tape c.next_message.new.source) one.0) c.requires.limit one.1 in
    λ start lanes tape count before less w.
    c.take_read.ensures.gives start lanes tape (g.S.Source.tape c.args.source.now) (g.S.Source.tape c.next_message.new.source) c.args.conn.now.held c.next_message.follows.lender-at-none.held count before one.0 less one.2 brings (AnswersMessage.advances answers) w

pub returns-in-Ok-Some-clause-causes : goal.returns-in-Ok-Some-clause-causes
returns-in-Ok-Some-clause-causes g c = step_causes (g.S.Source.faults c.args.source.now) (g.S.Source.faults c.next_message.new.source) (g.O.Outlet.faults c.args.keeping.now.outlet) (g.O.Outlet.faults c.take_read.new.keeping.outlet) c.take_read.result c.in-Ok-Some.ensures.cause c.take_read.ensures.causes

pub returns-in-Ok-None-clause-gives : goal.returns-in-Ok-None-clause-gives
returns-in-Ok-None-clause-gives g c =
    let answers = (subst (λ (r : Result (Option Message) HttpFault). AnswersMessage c.args.conn.now c.next_message.follows.lender-at-none (g.S.Source.tape c.args.source.now) (g.S.Source.tape c.next_message.new.source) r) (c.in-Ok-None.is ∙ ap Ok c.in-Ok-None.field-0-is) c.next_message.follows.holds-at-none) in
    let told = subst (λ (n : ℕ). WhereTold (g.S.Source.tape c.args.source.now) (g.S.Source.tape c.next_message.new.source) (λ (o new : Tape). GivesMessage n (c.args.conn.now.held ++ o.left) (Ok None) (c.next_message.follows.lender-at-none.held ++ new.left))) c.requires.limit (AnswersMessage.told answers c.requires.sound) in
    λ start lanes tape count before less w.
    ends_there g.Y.DayDesk (works g.L.Link) (IsMomentOf (g.C.Clock.moment c.args.floor.now.clock.now)) c.args.floor.now.roster.now start lanes tape (g.S.Source.tape c.args.source.now) (g.S.Source.tape c.next_message.new.source) c.args.conn.now.held c.next_message.follows.lender-at-none.held count before c.args.floor.now.desk c.args.floor.now.lanes.now.items c.args.keeping.now.waiting.batch.calls (g.O.Outlet.held c.args.keeping.now.outlet) (g.O.Outlet.least c.args.keeping.now.outlet) (g.O.Outlet.waiting c.args.keeping.now.outlet) c.next_message.follows.lender-at-none less told (AnswersMessage.advances answers) w

pub returns-in-Err-clause-gives : goal.returns-in-Err-clause-gives
returns-in-Err-clause-gives g c =
    let answers = (subst (λ (r : Result (Option Message) HttpFault). AnswersMessage c.args.conn.now c.next_message.follows.lender-at-none (g.S.Source.tape c.args.source.now) (g.S.Source.tape c.next_message.new.source) r) c.in-Err.is c.next_message.follows.holds-at-none) in
    let told = subst (λ (n : ℕ). WhereTold (g.S.Source.tape c.args.source.now) (g.S.Source.tape c.next_message.new.source) (λ (o new : Tape). GivesMessage n (c.args.conn.now.held ++ o.left) (Err c.in-Err.fault) (c.next_message.follows.lender-at-none.held ++ new.left))) c.requires.limit (AnswersMessage.told answers c.requires.sound) in
    λ start lanes tape count before less w.
    subst (λ (r : Result (Option Over) Stop). StepGives g.Y.DayDesk (works g.L.Link) (IsMomentOf (g.C.Clock.moment c.args.floor.now.clock.now)) c.args.floor.now.roster.now start lanes tape (g.S.Source.tape c.next_message.new.source) c.next_message.follows.lender-at-none.held (suc count) before c.args.floor.now.desk c.args.floor.now.lanes.now.items c.args.keeping.now.waiting.batch.calls (g.O.Outlet.held c.args.keeping.now.outlet) (g.O.Outlet.sunk c.args.keeping.now.outlet) (g.O.Outlet.least c.args.keeping.now.outlet) (g.O.Outlet.waiting c.args.keeping.now.outlet) r) (sym c.over_by.ensures)
    (fault_gives g.Y.DayDesk (works g.L.Link) (IsMomentOf (g.C.Clock.moment c.args.floor.now.clock.now)) c.args.floor.now.roster.now start lanes tape (g.S.Source.tape c.args.source.now) (g.S.Source.tape c.next_message.new.source) c.args.conn.now.held c.next_message.follows.lender-at-none.held count before c.args.floor.now.desk c.args.floor.now.lanes.now.items c.args.keeping.now.waiting.batch.calls (g.O.Outlet.held c.args.keeping.now.outlet) (g.O.Outlet.least c.args.keeping.now.outlet) (g.O.Outlet.waiting c.args.keeping.now.outlet) c.in-Err.fault (g.O.Outlet.sunk c.args.keeping.now.outlet) (g.O.Outlet.left c.args.keeping.now.outlet) less told (AnswersMessage.advances answers)
    (λ is. subst (λ (n : ℕ). WhereTold (g.S.Source.tape c.args.source.now) (g.S.Source.tape c.next_message.new.source) (λ (o new : Tape). (given : List ℕ) × (o.left ≡ given ++ new.left) × IsUnfinishedRequest n (c.args.conn.now.held ++ given))) c.requires.limit (AnswersMessage.unread answers (ap Err is)))
    c.requires.none
    (settled_sunk (g.O.Outlet.held c.args.keeping.now.outlet) (g.O.Outlet.sunk c.args.keeping.now.outlet) (g.O.Outlet.left c.args.keeping.now.outlet) (g.O.Outlet.least c.args.keeping.now.outlet) c.requires.settled (g.met.O.Outlet.is_held c.args.keeping.now.outlet) (g.met.O.Outlet.is_least c.args.keeping.now.outlet)) w)

pub returns-in-Err-clause-causes : goal.returns-in-Err-clause-causes
returns-in-Err-clause-causes g c =
    subst (λ (r : Result (Option Over) Stop). StepCauses (g.S.Source.faults c.args.source.now) (g.S.Source.faults c.next_message.new.source) (g.O.Outlet.faults c.args.keeping.now.outlet) (g.O.Outlet.faults c.args.keeping.now.outlet) r) (sym c.over_by.ensures)
    (fault_causes (g.S.Source.faults c.args.source.now) (g.S.Source.faults c.next_message.new.source) (g.O.Outlet.faults c.args.keeping.now.outlet) c.in-Err.fault c.in-Err.ensures.cause)

pub returns-in-Ok-Some-clause-goes_on : goal.returns-in-Ok-Some-clause-goes_on
returns-in-Ok-Some-clause-goes_on g c =
    let answers = (subst (λ (r : Result (Option Message) HttpFault). AnswersMessage c.args.conn.now c.next_message.follows.lender-at-none (g.S.Source.tape c.args.source.now) (g.S.Source.tape c.next_message.new.source) r) (c.in-Ok-Some.is ∙ ap Ok c.in-Ok-Some.field-0-is) c.next_message.follows.holds-at-none) in
    sound_any c.take_read.result (AnswersMessage.sound answers c.requires.sound)

pub returns-in-Err-clause-goes_on : goal.returns-in-Err-clause-goes_on
returns-in-Err-clause-goes_on g c =
    subst (λ (r : Result (Option Over) Stop). IfOk r (λ over. IsNone over → c.next_message.follows.lender-at-none.failed ≡ false)) (sym c.over_by.ensures) (faults_over (c.next_message.follows.lender-at-none.failed ≡ false) c.in-Err.fault)

-- One message is answered, given up, or its reply is cut off by the sink.
use Rattle.std.proofs.Common.{[], List, ℕ, Option, refl, sym, ap, ◌∙◌, subst, arith, string_bytes}
use Rattle.std.specs.Io.KnownBytes.{append_known}
use Rattle.adx_io.specs.Streams.{Took}
use Rattle.http_connection.specs.Answers.{Shows}
use Rattle.http_service.specs.Connections.{TookFront}
use Rattle.http_service.specs.Replies.{reply_to}
use Rattle.exchange_http.specs.Gathered.{count_of}
use Rattle.exchange_http.specs.Running.{before_one}
use Rattle.exchange_messages.specs.Floors.{IsMomentOf}
use Rattle.fan_out.specs.Lanes.{works}
use Rattle.exchange_http.proofs.Causes.{all_sunk, moves_same, settled_least, stops_failing, stops_writing}
use Rattle.exchange_http.proofs.OneMore.{answered_so, given_up_so, one_answered, one_failed, one_given_up}
use Rattle.exchange_http.proofs.UnderWay.{put_failed}
use Rattle.exchange_http.proofs.others.answer_other.Goals as goal

pub returns-in-Ok-gather_reply-clause-goes_on : goal.returns-in-Ok-gather_reply-clause-goes_on
returns-in-Ok-gather_reply-clause-goes_on g c =
    λ start lanes tape tape_now coming before m is w.
    let shows = is.0 in
    let wants = is.1 in
    let held = g.O.Outlet.held c.args.keeping.now.outlet in
    let held_mid = g.O.Outlet.held c.expect.new.self in
    let held_now = g.O.Outlet.held c.gather_reply.new.outlet in
    let a = c.in-Ok-answer.answer in
    let body = string_bytes c.answer.new.out in
    let took : Took held_mid held_now (reply_to m a body) = subst (λ (b : List ℕ). Took held_mid held_now (reply_to m a b)) c.as_bytes.ensures.value (c.in-Ok-gather_reply.ensures.whole m shows) in
    one_answered g.Y.DayDesk (works g.L.Link) (IsMomentOf (g.C.Clock.moment c.args.floor.now.clock.now)) c.args.floor.now.roster.now g.met.Y.DayDesk.join start lanes tape tape_now coming before
    c.args.floor.now.desk c.answer.new.self.desk c.args.floor.now.lanes.now.items c.answer.new.self.lanes.now.items held held_now (g.O.Outlet.least c.args.keeping.now.outlet) (g.O.Outlet.waiting c.args.keeping.now.outlet) (g.O.Outlet.least c.gather_reply.new.outlet) (g.O.Outlet.waiting c.gather_reply.new.outlet) m a body
    w
    (moves_same 1 held (g.O.Outlet.least c.args.keeping.now.outlet) (g.O.Outlet.waiting c.args.keeping.now.outlet) (g.O.Outlet.least c.expect.new.self) (g.O.Outlet.waiting c.expect.new.self) (g.O.Outlet.least c.gather_reply.new.outlet) (g.O.Outlet.waiting c.gather_reply.new.outlet) c.in-Ok.ensures.moves c.in-Ok-gather_reply.ensures.same.0 c.in-Ok-gather_reply.ensures.same.1)
    (answered_so g.Y.DayDesk g.L.Link g.C.Clock c.args.floor.now c.answer.new.self m _ (c.in-Ok-answer.ensures.answered m (sym (Shows.body shows)) wants)) (took ∙ ap (λ (h : Option (List ℕ)). append_known h (reply_to m a body)) c.expect.ensures.held)

pub returns-in-Ok-gather_reply-clause-causes : goal.returns-in-Ok-gather_reply-clause-causes
returns-in-Ok-gather_reply-clause-causes g c = c.in-Ok-gather_reply.ensures.cause.passed ∙ c.in-Ok.ensures.cause.passed

pub returns-in-Err-gather_reply-clause-stops : goal.returns-in-Err-gather_reply-clause-stops
returns-in-Err-gather_reply-clause-stops g c =
    λ start lanes tape tape_now coming before m is w.
    let shows = is.0 in
    let wants = is.1 in
    let held = g.O.Outlet.held c.args.keeping.now.outlet in
    let held_mid = g.O.Outlet.held c.expect.new.self in
    let held_now = g.O.Outlet.held c.gather_reply.new.outlet in
    let a = c.in-Ok-answer.answer in
    let body = string_bytes c.answer.new.out in
    let took : TookFront held_mid held_now (reply_to m a body) = subst (λ (b : List ℕ). TookFront held_mid held_now (reply_to m a b)) c.as_bytes.ensures.value (c.in-Err-gather_reply.ensures.front m shows) in
    one_failed g.Y.DayDesk (works g.L.Link) (IsMomentOf (g.C.Clock.moment c.args.floor.now.clock.now)) c.args.floor.now.roster.now g.met.Y.DayDesk.join start lanes tape tape_now coming before
    c.args.floor.now.desk c.answer.new.self.desk c.args.floor.now.lanes.now.items c.answer.new.self.lanes.now.items held held_now (g.O.Outlet.sunk c.gather_reply.new.outlet) took.0 took.1 (g.O.Outlet.left c.gather_reply.new.outlet) (g.O.Outlet.least c.args.keeping.now.outlet) (g.O.Outlet.waiting c.args.keeping.now.outlet) (g.O.Outlet.least c.gather_reply.new.outlet) (g.O.Outlet.waiting c.gather_reply.new.outlet) m a body
    w
    (moves_same 1 held (g.O.Outlet.least c.args.keeping.now.outlet) (g.O.Outlet.waiting c.args.keeping.now.outlet) (g.O.Outlet.least c.expect.new.self) (g.O.Outlet.waiting c.expect.new.self) (g.O.Outlet.least c.gather_reply.new.outlet) (g.O.Outlet.waiting c.gather_reply.new.outlet) c.in-Ok.ensures.moves c.in-Err-gather_reply.ensures.same.0 c.in-Err-gather_reply.ensures.same.1)
    (answered_so g.Y.DayDesk g.L.Link g.C.Clock c.args.floor.now c.answer.new.self m _ (c.in-Ok-answer.ensures.answered m (sym (Shows.body shows)) wants)) took.2 (took.3 ∙ ap (λ (h : Option (List ℕ)). append_known h took.0) c.expect.ensures.held)
    (g.met.O.Outlet.is_held c.gather_reply.new.outlet) (g.met.O.Outlet.is_least c.gather_reply.new.outlet) (g.met.O.Outlet.is_few c.gather_reply.new.outlet)

pub returns-in-Err-gather_reply-clause-causes : goal.returns-in-Err-gather_reply-clause-causes
returns-in-Err-gather_reply-clause-causes g c = stops_writing (g.O.Outlet.faults c.args.keeping.now.outlet) (g.O.Outlet.faults c.expect.new.self) (g.O.Outlet.faults c.gather_reply.new.outlet) _ c.in-Ok.ensures.cause.passed c.in-Err-gather_reply.ensures.cause

pub returns-in-Err-answer-clause-stops : goal.returns-in-Err-answer-clause-stops
returns-in-Err-answer-clause-stops g c =
    λ start lanes tape tape_now coming before m is w.
    let shows = is.0 in
    let wants = is.1 in
    let held = g.O.Outlet.held c.args.keeping.now.outlet in
    let least = settled_least 1 held (g.O.Outlet.left c.args.keeping.now.outlet) (g.O.Outlet.least c.args.keeping.now.outlet) (g.O.Outlet.waiting c.args.keeping.now.outlet) (g.O.Outlet.least c.expect.new.self) (g.O.Outlet.waiting c.expect.new.self) c.requires.settled c.in-Ok.ensures.moves in
    let enough = ap count_of c.expect.ensures.held in
    let all = all_sunk (g.O.Outlet.held c.expect.new.self) (g.O.Outlet.sunk c.expect.new.self) (g.O.Outlet.left c.expect.new.self) (g.met.O.Outlet.is_held c.expect.new.self) (omega (arith, least, enough, g.met.O.Outlet.is_least c.expect.new.self)) in
    one_given_up g.Y.DayDesk (works g.L.Link) (IsMomentOf (g.C.Clock.moment c.args.floor.now.clock.now)) c.args.floor.now.roster.now g.met.Y.DayDesk.join start lanes tape tape_now coming before
    c.args.floor.now.desk c.answer.new.self.desk c.args.floor.now.lanes.now.items c.answer.new.self.lanes.now.items held (g.O.Outlet.sunk c.expect.new.self) (g.O.Outlet.least c.args.keeping.now.outlet) (g.O.Outlet.waiting c.args.keeping.now.outlet) m
    w (all ∙ c.expect.ensures.held) (given_up_so g.Y.DayDesk g.L.Link g.C.Clock c.args.floor.now c.answer.new.self m (c.in-Err-answer.ensures.gave_up m (sym (Shows.body shows)) wants))

pub returns-in-Err-answer-clause-causes : goal.returns-in-Err-answer-clause-causes
returns-in-Err-answer-clause-causes g c = c.in-Ok.ensures.cause.passed

pub returns-in-Err-clause-stops : goal.returns-in-Err-clause-stops
returns-in-Err-clause-stops g c =
    λ start lanes tape tape_now coming before m is w.
    let shows = is.0 in
    let wants = is.1 in
    put_failed g.Y.DayDesk (works g.L.Link) (IsMomentOf (g.C.Clock.moment c.args.floor.now.clock.now)) c.args.floor.now.roster.now g.met.Y.DayDesk.join start lanes tape tape_now (before_one m coming) before
    c.args.floor.now.desk c.args.floor.now.lanes.now.items [] _ (g.O.Outlet.held c.args.keeping.now.outlet) (g.O.Outlet.held c.expect.new.self) (g.O.Outlet.sunk c.expect.new.self) (g.O.Outlet.left c.expect.new.self) (g.O.Outlet.least c.args.keeping.now.outlet) (g.O.Outlet.waiting c.args.keeping.now.outlet) (g.O.Outlet.least c.expect.new.self) (g.O.Outlet.waiting c.expect.new.self)
    w c.expect.ensures.held c.in-Err.ensures.failed.1 c.in-Err.ensures.failed.0 (g.met.O.Outlet.is_held c.expect.new.self) (g.met.O.Outlet.is_least c.expect.new.self) (g.met.O.Outlet.is_few c.expect.new.self)

pub returns-in-Err-clause-causes : goal.returns-in-Err-clause-causes
returns-in-Err-clause-causes g c = stops_failing (g.O.Outlet.faults c.args.keeping.now.outlet) (g.O.Outlet.faults c.args.keeping.now.outlet) (g.O.Outlet.faults c.expect.new.self) _ refl c.in-Err.ensures.cause

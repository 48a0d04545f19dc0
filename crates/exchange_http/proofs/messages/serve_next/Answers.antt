-- The next message, from what was taken, or after all replies.
use Rattle.exchange_messages.proofs.Requested.{kept_on}
use Rattle.fan_out.specs.Lanes.{works}
use Rattle.std.proofs.Common.{◌≡◌, ◌≤◌, ℕ, suc, [], length, Option, refl, sym, ap, ◌∙◌, subst}
use Rattle.http_connection.specs.Answers.{AnswersHeld}
use Rattle.http_connection.specs.Messages.{IsRequestThen}
use Rattle.http_connection.specs.State.{ConnState, room_of}
use Rattle.http_connection.specs.declared.conn.Message.{Message}
use Rattle.http_service.specs.declared.limits.TheConstants.{REQUEST_LIMIT}
use Rattle.exchange_http.specs.Running.{more}
use Rattle.exchange_http.proofs.Along.{GivesBy, along, way_along, way_behind, way_with}
use Rattle.exchange_http.proofs.Nexts.{held_brings, stands_still}
use Rattle.exchange_http.proofs.Causes.{causes_after, sound_any, stops_failing}
use Rattle.exchange_http.proofs.messages.serve_next.Goals as goal

pub returns-in-Ok-clause-gives : goal.returns-in-Ok-clause-gives
returns-in-Ok-clause-gives g c =
    let kept = subst (λ (r : Option Message). AnswersHeld c.args.conn.now c.held_message.follows.lender-at-none r) c.in-None.is c.held_message.follows.holds-at-none in
    let same_roster : c.put_all_out.new.floor.roster.now ≡ c.args.floor.now.roster.now = cc c.put_all_out.ensures.kept.roster in
    let same_clock : (g.C.Clock.moment c.put_all_out.new.floor.clock.now) ≡ (g.C.Clock.moment c.args.floor.now.clock.now) = cc c.put_all_out.ensures.kept.clock in
    λ start lanes tape count before less w.
    along (GivesBy g.Y.DayDesk (works g.L.Link) start lanes tape (g.S.Source.tape c.read_next.new.source) c.read_next.new.conn.held (suc count) before c.read_next.new.floor.desk c.read_next.new.floor.lanes.now.items c.read_next.new.keeping.waiting.batch.calls (g.O.Outlet.held c.read_next.new.keeping.outlet) (g.O.Outlet.sunk c.read_next.new.keeping.outlet) (g.O.Outlet.least c.read_next.new.keeping.outlet) (g.O.Outlet.waiting c.read_next.new.keeping.outlet) c.read_next.result)
    c.args.floor.now.roster.now c.put_all_out.new.floor.roster.now (g.C.Clock.moment c.args.floor.now.clock.now) (g.C.Clock.moment c.put_all_out.new.floor.clock.now) same_roster same_clock
    (c.read_next.ensures.gives start lanes tape count before less
    (way_with [] c.put_all_out.new.keeping.waiting.batch.calls (sym c.in-Ok.ensures.empty) (way_along c.put_all_out.new.floor.roster.now c.args.floor.now.roster.now (g.C.Clock.moment c.put_all_out.new.floor.clock.now) (g.C.Clock.moment c.args.floor.now.clock.now) (sym same_roster) (sym same_clock) (c.in-Ok.ensures.goes_on start lanes tape (g.S.Source.tape c.args.source.now) (more c.held_message.follows.lender-at-none.held count) before
    (way_behind c.args.conn.now.held c.held_message.follows.lender-at-none.held (ap (λ (s : ConnState). s.held) (sym kept.1)) w)))))

pub returns-in-Ok-clause-causes : goal.returns-in-Ok-clause-causes
returns-in-Ok-clause-causes g c =
    causes_after (g.S.Source.faults c.args.source.now) (g.S.Source.faults c.read_next.new.source) (g.O.Outlet.faults c.args.keeping.now.outlet) (g.O.Outlet.faults c.put_all_out.new.keeping.outlet) (g.O.Outlet.faults c.read_next.new.keeping.outlet) c.read_next.result c.in-Ok.ensures.cause.passed c.read_next.ensures.causes

pub returns-in-Err-clause-gives : goal.returns-in-Err-clause-gives
returns-in-Err-clause-gives g c = λ start lanes tape count before less w. c.in-Err.ensures.fails start lanes tape (g.S.Source.tape c.args.source.now) (more c.args.conn.now.held count) before w

pub returns-in-Err-clause-causes : goal.returns-in-Err-clause-causes
returns-in-Err-clause-causes g c =
    let by = stops_failing (g.O.Outlet.faults c.args.keeping.now.outlet) (g.O.Outlet.faults c.args.keeping.now.outlet) (g.O.Outlet.faults c.put_all_out.new.keeping.outlet) _ refl c.in-Err.ensures.cause in
    (refl, by.0, by.1)

pub returns-in-Some-clause-gives : goal.returns-in-Some-clause-gives
returns-in-Some-clause-gives g c =
    let answers = subst (λ (r : Option Message). AnswersHeld c.args.conn.now c.held_message.follows.lender-at-none r) c.in-Some.is c.held_message.follows.holds-at-none in
    let one = answers.3 in
    let fits = subst (λ (n : ℕ). length c.held_message.follows.lender-at-none.held ≤ room_of n) c.requires.limit answers.2 in
    let is = subst (λ (n : ℕ). IsRequestThen n c.args.conn.now.held one.0 c.held_message.follows.lender-at-none.held) c.requires.limit one.1 in
    λ start lanes tape count before less w.
    c.take_read.ensures.gives start lanes tape (g.S.Source.tape c.args.source.now) (g.S.Source.tape c.args.source.now) c.args.conn.now.held c.held_message.follows.lender-at-none.held count before one.0 less one.2
    (held_brings REQUEST_LIMIT c.args.conn.now.held c.held_message.follows.lender-at-none.held one.0 (g.S.Source.tape c.args.source.now) fits is) (stands_still (g.S.Source.tape c.args.source.now)) w

pub returns-in-Some-clause-causes : goal.returns-in-Some-clause-causes
returns-in-Some-clause-causes g c = c.take_read.ensures.causes (g.S.Source.faults c.args.source.now)

pub returns-in-Some-clause-goes_on : goal.returns-in-Some-clause-goes_on
returns-in-Some-clause-goes_on g c =
    let answers = subst (λ (r : Option Message). AnswersHeld c.args.conn.now c.held_message.follows.lender-at-none r) c.in-Some.is c.held_message.follows.holds-at-none in
    sound_any c.take_read.result (ap (λ (s : ConnState). s.failed) answers.1 ∙ answers.0)

pub read_next-requires-clause-always : goal.read_next-requires-clause-always
read_next-requires-clause-always g c = rw (sym c.put_all_out.ensures.kept.gatherer) at c.requires.always

pub read_next-requires-clause-gives : goal.read_next-requires-clause-gives
read_next-requires-clause-gives g c = rw (sym c.put_all_out.ensures.kept.gatherer) at c.requires.gives

pub returns-in-Ok-clause-kept : goal.returns-in-Ok-clause-kept
returns-in-Ok-clause-kept g c = kept_on g.Y.DayDesk c.args.floor.now c.put_all_out.new.floor c.read_next.new.floor c.put_all_out.ensures.kept c.read_next.ensures.kept

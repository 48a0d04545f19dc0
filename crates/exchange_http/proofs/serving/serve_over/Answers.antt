-- From no message on to the end.
use Rattle.exchange_messages.proofs.Requested.{kept_on}
use Rattle.std.proofs.Common.{◌≡◌, Result, Err, sym, ap, ◌∙◌, subst}
use Rattle.http_connection.specs.State.{ConnState}
use Rattle.http_connection.specs.declared.conn.ConnEnd.{ConnEnd}
use Rattle.exchange_http.specs.Running.{OverCauses}
use Rattle.exchange_messages.specs.Floors.{IsMomentOf}
use Rattle.fan_out.specs.Lanes.{works}
use Rattle.exchange_http.specs.declared.over.Over.{Over}
use Rattle.exchange_http.specs.declared.stop.Stop.{Stop}
use Rattle.exchange_http.proofs.Along.{EndsBy, along, stopped, way_along}
use Rattle.exchange_http.proofs.Causes.{over_causes, over_failed, stop_causes}
use Rattle.exchange_http.proofs.Nexts.{begins_on}
use Rattle.exchange_http.proofs.serving.serve_over.Goals as goal

pub returns-in-Ok-finish-clause-ends : goal.returns-in-Ok-finish-clause-ends
returns-in-Ok-finish-clause-ends g c =
    let same_roster : c.serve_all.new.floor.roster.now ≡ c.args.floor.now.roster.now = cc c.serve_all.ensures.kept.roster in
    let same_clock : g.C.Clock.moment c.serve_all.new.floor.clock.now ≡ (g.C.Clock.moment c.args.floor.now.clock.now) = cc c.serve_all.ensures.kept.clock in
    let w =
    begins_on g.Y.DayDesk (works g.L.Link) (IsMomentOf (g.C.Clock.moment c.args.floor.now.clock.now)) c.args.floor.now.roster.now c.args.floor.now.desk c.args.floor.now.lanes.now.items (g.S.Source.tape c.args.source.now) (g.O.Outlet.held c.args.keeping.now.outlet) (g.O.Outlet.left c.args.keeping.now.outlet) (g.O.Outlet.least c.args.keeping.now.outlet) (g.O.Outlet.waiting c.args.keeping.now.outlet) c.args.conn.now.held c.args.keeping.now.waiting.batch.calls (g.met.Y.DayDesk.none c.args.floor.now.desk)
    c.requires.settled (ap (λ (x : ConnState). x.held) c.requires.conn) c.requires.none in
    along (EndsBy g.Y.DayDesk (works g.L.Link) c.args.floor.now.desk c.args.floor.now.lanes.now.items (g.S.Source.tape c.args.source.now) (g.S.Source.tape c.serve_all.new.source) (g.O.Outlet.held c.args.keeping.now.outlet) c.finish.new.floor.desk c.finish.new.floor.lanes.now.items (g.O.Outlet.sunk c.finish.new.keeping.outlet) c.in-Ok-finish.end) c.args.floor.now.roster.now c.serve_all.new.floor.roster.now (g.C.Clock.moment c.args.floor.now.clock.now) (g.C.Clock.moment c.serve_all.new.floor.clock.now) same_roster same_clock
    (c.in-Ok-finish.ensures.ends c.args.floor.now.desk c.args.floor.now.lanes.now.items (g.S.Source.tape c.args.source.now) (g.S.Source.tape c.serve_all.new.source) (g.O.Outlet.held c.args.keeping.now.outlet) (way_along c.serve_all.new.floor.roster.now c.args.floor.now.roster.now (g.C.Clock.moment c.serve_all.new.floor.clock.now) (g.C.Clock.moment c.args.floor.now.clock.now) (sym same_roster) (sym same_clock) (c.in-Ok.ensures.over c.args.floor.now.desk c.args.floor.now.lanes.now.items (g.S.Source.tape c.args.source.now) (g.O.Outlet.held c.args.keeping.now.outlet) w)))

pub returns-in-Ok-finish-clause-causes : goal.returns-in-Ok-finish-clause-causes
returns-in-Ok-finish-clause-causes g c = over_causes (g.S.Source.faults c.args.source.now) (g.S.Source.faults c.serve_all.new.source) (g.O.Outlet.faults c.args.keeping.now.outlet) (g.O.Outlet.faults c.serve_all.new.keeping.outlet) (g.O.Outlet.faults c.finish.new.keeping.outlet) c.in-Ok.over c.in-Ok-finish.end c.in-Ok.ensures.causes c.in-Ok-finish.ensures.cause.passed c.in-Ok-finish.ensures.by

pub returns-in-Err-clause-ends : goal.returns-in-Err-clause-ends
returns-in-Err-clause-ends g c =
    let same_roster : c.serve_all.new.floor.roster.now ≡ c.args.floor.now.roster.now = cc c.serve_all.ensures.kept.roster in
    let same_clock : g.C.Clock.moment c.serve_all.new.floor.clock.now ≡ (g.C.Clock.moment c.args.floor.now.clock.now) = cc c.serve_all.ensures.kept.clock in
    let w =
    begins_on g.Y.DayDesk (works g.L.Link) (IsMomentOf (g.C.Clock.moment c.args.floor.now.clock.now)) c.args.floor.now.roster.now c.args.floor.now.desk c.args.floor.now.lanes.now.items (g.S.Source.tape c.args.source.now) (g.O.Outlet.held c.args.keeping.now.outlet) (g.O.Outlet.left c.args.keeping.now.outlet) (g.O.Outlet.least c.args.keeping.now.outlet) (g.O.Outlet.waiting c.args.keeping.now.outlet) c.args.conn.now.held c.args.keeping.now.waiting.batch.calls (g.met.Y.DayDesk.none c.args.floor.now.desk)
    c.requires.settled (ap (λ (x : ConnState). x.held) c.requires.conn) c.requires.none in
    along (EndsBy g.Y.DayDesk (works g.L.Link) c.args.floor.now.desk c.args.floor.now.lanes.now.items (g.S.Source.tape c.args.source.now) (g.S.Source.tape c.serve_all.new.source) (g.O.Outlet.held c.args.keeping.now.outlet) c.finish.new.floor.desk c.finish.new.floor.lanes.now.items (g.O.Outlet.sunk c.finish.new.keeping.outlet) ConnEnd.WriteFault) c.args.floor.now.roster.now c.serve_all.new.floor.roster.now (g.C.Clock.moment c.args.floor.now.clock.now) (g.C.Clock.moment c.serve_all.new.floor.clock.now) same_roster same_clock
    (c.in-Err.ensures.fails c.args.floor.now.desk c.args.floor.now.lanes.now.items (g.S.Source.tape c.args.source.now) (g.S.Source.tape c.serve_all.new.source) (g.O.Outlet.held c.args.keeping.now.outlet) (way_along c.serve_all.new.floor.roster.now c.args.floor.now.roster.now (g.C.Clock.moment c.serve_all.new.floor.clock.now) (g.C.Clock.moment c.args.floor.now.clock.now) (sym same_roster) (sym same_clock) (c.in-Ok.ensures.over c.args.floor.now.desk c.args.floor.now.lanes.now.items (g.S.Source.tape c.args.source.now) (g.O.Outlet.held c.args.keeping.now.outlet) w)))

pub returns-in-Err-clause-causes : goal.returns-in-Err-clause-causes
returns-in-Err-clause-causes g c = over_failed (g.S.Source.faults c.args.source.now) (g.S.Source.faults c.serve_all.new.source) (g.O.Outlet.faults c.args.keeping.now.outlet) (g.O.Outlet.faults c.serve_all.new.keeping.outlet) (g.O.Outlet.faults c.finish.new.keeping.outlet) c.in-Ok.over _ c.in-Ok.ensures.causes c.in-Err.ensures.cause

pub returns-in-Err-WriteFault-clause-ends : goal.returns-in-Err-WriteFault-clause-ends
returns-in-Err-WriteFault-clause-ends g c =
    let w =
    begins_on g.Y.DayDesk (works g.L.Link) (IsMomentOf (g.C.Clock.moment c.args.floor.now.clock.now)) c.args.floor.now.roster.now c.args.floor.now.desk c.args.floor.now.lanes.now.items (g.S.Source.tape c.args.source.now) (g.O.Outlet.held c.args.keeping.now.outlet) (g.O.Outlet.left c.args.keeping.now.outlet) (g.O.Outlet.least c.args.keeping.now.outlet) (g.O.Outlet.waiting c.args.keeping.now.outlet) c.args.conn.now.held c.args.keeping.now.waiting.batch.calls (g.met.Y.DayDesk.none c.args.floor.now.desk)
    c.requires.settled (ap (λ (x : ConnState). x.held) c.requires.conn) c.requires.none in
    stopped _ c.serve_all.result Stop.WriteFault (c.in-Err-WriteFault.is ∙ ap Err c.in-Err-WriteFault.field-0-is) c.serve_all.ensures.stops c.args.floor.now.desk c.args.floor.now.lanes.now.items (g.S.Source.tape c.args.source.now) (g.O.Outlet.held c.args.keeping.now.outlet) w

pub returns-in-Err-WriteFault-clause-causes : goal.returns-in-Err-WriteFault-clause-causes
returns-in-Err-WriteFault-clause-causes g c =
    stop_causes (g.S.Source.faults c.args.source.now) (g.S.Source.faults c.serve_all.new.source) (g.O.Outlet.faults c.args.keeping.now.outlet) (g.O.Outlet.faults c.serve_all.new.keeping.outlet) Stop.WriteFault (subst (λ (r : Result Over Stop). OverCauses (g.S.Source.faults c.args.source.now) (g.S.Source.faults c.serve_all.new.source) (g.O.Outlet.faults c.args.keeping.now.outlet) (g.O.Outlet.faults c.serve_all.new.keeping.outlet) r) (c.in-Err-WriteFault.is ∙ ap Err c.in-Err-WriteFault.field-0-is) c.serve_all.ensures.causes)

pub returns-in-Err-OutOfMemory-clause-ends : goal.returns-in-Err-OutOfMemory-clause-ends
returns-in-Err-OutOfMemory-clause-ends g c =
    let w =
    begins_on g.Y.DayDesk (works g.L.Link) (IsMomentOf (g.C.Clock.moment c.args.floor.now.clock.now)) c.args.floor.now.roster.now c.args.floor.now.desk c.args.floor.now.lanes.now.items (g.S.Source.tape c.args.source.now) (g.O.Outlet.held c.args.keeping.now.outlet) (g.O.Outlet.left c.args.keeping.now.outlet) (g.O.Outlet.least c.args.keeping.now.outlet) (g.O.Outlet.waiting c.args.keeping.now.outlet) c.args.conn.now.held c.args.keeping.now.waiting.batch.calls (g.met.Y.DayDesk.none c.args.floor.now.desk)
    c.requires.settled (ap (λ (x : ConnState). x.held) c.requires.conn) c.requires.none in
    stopped _ c.serve_all.result Stop.OutOfMemory (c.in-Err-OutOfMemory.is ∙ ap Err c.in-Err-OutOfMemory.field-0-is) c.serve_all.ensures.stops c.args.floor.now.desk c.args.floor.now.lanes.now.items (g.S.Source.tape c.args.source.now) (g.O.Outlet.held c.args.keeping.now.outlet) w

pub returns-in-Err-OutOfMemory-clause-causes : goal.returns-in-Err-OutOfMemory-clause-causes
returns-in-Err-OutOfMemory-clause-causes g c =
    stop_causes (g.S.Source.faults c.args.source.now) (g.S.Source.faults c.serve_all.new.source) (g.O.Outlet.faults c.args.keeping.now.outlet) (g.O.Outlet.faults c.serve_all.new.keeping.outlet) Stop.OutOfMemory (subst (λ (r : Result Over Stop). OverCauses (g.S.Source.faults c.args.source.now) (g.S.Source.faults c.serve_all.new.source) (g.O.Outlet.faults c.args.keeping.now.outlet) (g.O.Outlet.faults c.serve_all.new.keeping.outlet) r) (c.in-Err-OutOfMemory.is ∙ ap Err c.in-Err-OutOfMemory.field-0-is) c.serve_all.ensures.causes)

pub returns-in-Err-ReadFault-clause-ends : goal.returns-in-Err-ReadFault-clause-ends
returns-in-Err-ReadFault-clause-ends g c =
    let w =
    begins_on g.Y.DayDesk (works g.L.Link) (IsMomentOf (g.C.Clock.moment c.args.floor.now.clock.now)) c.args.floor.now.roster.now c.args.floor.now.desk c.args.floor.now.lanes.now.items (g.S.Source.tape c.args.source.now) (g.O.Outlet.held c.args.keeping.now.outlet) (g.O.Outlet.left c.args.keeping.now.outlet) (g.O.Outlet.least c.args.keeping.now.outlet) (g.O.Outlet.waiting c.args.keeping.now.outlet) c.args.conn.now.held c.args.keeping.now.waiting.batch.calls (g.met.Y.DayDesk.none c.args.floor.now.desk)
    c.requires.settled (ap (λ (x : ConnState). x.held) c.requires.conn) c.requires.none in
    stopped _ c.serve_all.result Stop.ReadFault (c.in-Err-ReadFault.is ∙ ap Err c.in-Err-ReadFault.field-0-is) c.serve_all.ensures.stops c.args.floor.now.desk c.args.floor.now.lanes.now.items (g.S.Source.tape c.args.source.now) (g.O.Outlet.held c.args.keeping.now.outlet) w

pub returns-in-Err-ReadFault-clause-causes : goal.returns-in-Err-ReadFault-clause-causes
returns-in-Err-ReadFault-clause-causes g c =
    stop_causes (g.S.Source.faults c.args.source.now) (g.S.Source.faults c.serve_all.new.source) (g.O.Outlet.faults c.args.keeping.now.outlet) (g.O.Outlet.faults c.serve_all.new.keeping.outlet) Stop.ReadFault (subst (λ (r : Result Over Stop). OverCauses (g.S.Source.faults c.args.source.now) (g.S.Source.faults c.serve_all.new.source) (g.O.Outlet.faults c.args.keeping.now.outlet) (g.O.Outlet.faults c.serve_all.new.keeping.outlet) r) (c.in-Err-ReadFault.is ∙ ap Err c.in-Err-ReadFault.field-0-is) c.serve_all.ensures.causes)

pub returns-in-Ok-finish-clause-kept : goal.returns-in-Ok-finish-clause-kept
returns-in-Ok-finish-clause-kept g c = kept_on g.Y.DayDesk c.args.floor.now c.serve_all.new.floor c.finish.new.floor c.serve_all.ensures.kept c.finish.ensures.kept

pub returns-in-Err-clause-kept : goal.returns-in-Err-clause-kept
returns-in-Err-clause-kept g c = kept_on g.Y.DayDesk c.args.floor.now c.serve_all.new.floor c.finish.new.floor c.serve_all.ensures.kept c.finish.ensures.kept

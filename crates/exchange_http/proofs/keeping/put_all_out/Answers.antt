-- The notices that wait were taken, and all replies put.
use Rattle.std.proofs.Common.{[], false, refl}
use Rattle.exchange_messages.specs.Floors.{IsMomentOf}
use Rattle.fan_out.specs.Lanes.{works}
use Rattle.exchange_http.proofs.Along.{on_ok}
use Rattle.exchange_http.proofs.Causes.{cause_after}
use Rattle.exchange_http.proofs.Flushing.{failed_ran, on_fault, settled_now}
use Rattle.exchange_messages.proofs.Requested.{floor_on}
use Rattle.exchange_http.proofs.UnderWay.{all_put, flush_failed, flushed, put_failed}
use Rattle.exchange_http.proofs.keeping.put_all_out.Goals as goal

pub returns-in-Ok-clause-goes_on : goal.returns-in-Ok-clause-goes_on
returns-in-Ok-clause-goes_on g c =
    on_ok c.put_out.result c.put_out.ensures.all
    (λ all start lanes tape tape_now coming before w.
    all_put g.Y.DayDesk (works g.L.Link) (IsMomentOf (g.C.Clock.moment c.args.floor.now.clock.now)) c.args.floor.now.roster.now g.met.Y.DayDesk.join start lanes tape tape_now coming before c.flush.new.desk c.args.floor.now.lanes.now.items (g.O.Outlet.held c.flush.new.outlet) (g.O.Outlet.held c.put_out.new.self) (g.O.Outlet.sunk c.put_out.new.self) (g.O.Outlet.left c.put_out.new.self) (g.O.Outlet.least c.flush.new.outlet) (g.O.Outlet.waiting c.flush.new.outlet) (g.O.Outlet.least c.put_out.new.self) (g.O.Outlet.waiting c.put_out.new.self)
    (flushed g.Y.DayDesk (works g.L.Link) (IsMomentOf (g.C.Clock.moment c.args.floor.now.clock.now)) c.args.floor.now.roster.now g.met.Y.DayDesk.join start lanes tape tape_now coming before
    c.args.floor.now.desk c.flush.new.desk c.args.floor.now.lanes.now.items c.args.keeping.now.waiting.batch.calls false (g.O.Outlet.held c.args.keeping.now.outlet) (g.O.Outlet.held c.flush.new.outlet) (g.O.Outlet.least c.args.keeping.now.outlet) (g.O.Outlet.waiting c.args.keeping.now.outlet) (g.O.Outlet.least c.flush.new.outlet) (g.O.Outlet.waiting c.flush.new.outlet) w c.in-Ok.ensures.flushes)
    c.put_out.ensures.held (g.met.O.Outlet.is_held c.put_out.new.self) all.0 all.2 all.1)

pub returns-in-Ok-clause-empty : goal.returns-in-Ok-clause-empty
returns-in-Ok-clause-empty g c = on_ok c.put_out.result c.put_out.ensures.all (λ all. c.in-Ok.ensures.empty)

pub returns-in-Ok-clause-settled : goal.returns-in-Ok-clause-settled
returns-in-Ok-clause-settled g c =
    on_ok c.put_out.result c.put_out.ensures.all
    (λ all. settled_now (g.O.Outlet.held c.put_out.new.self) (g.O.Outlet.sunk c.put_out.new.self) (g.O.Outlet.left c.put_out.new.self) (g.O.Outlet.least c.put_out.new.self) (g.met.O.Outlet.is_held c.put_out.new.self) all.0 all.2)

pub returns-in-Ok-clause-floor : goal.returns-in-Ok-clause-floor
returns-in-Ok-clause-floor g c =
    floor_on g.Y.DayDesk g.met.Y.DayDesk.same c.args.floor.now _ _ refl c.requires.floor c.in-Ok.ensures.flushes.takes.ran c.requires.floor.lanes_are

pub returns-in-Ok-clause-cause : goal.returns-in-Ok-clause-cause
returns-in-Ok-clause-cause g c = cause_after (g.O.Outlet.faults c.args.keeping.now.outlet) (g.O.Outlet.faults c.flush.new.outlet) (g.O.Outlet.faults c.put_out.new.self) c.put_out.result c.in-Ok.ensures.cause.passed c.put_out.ensures.cause

pub returns-in-Ok-clause-fails : goal.returns-in-Ok-clause-fails
returns-in-Ok-clause-fails g c =
    on_fault c.put_out.result c.put_out.ensures.failed
    (λ failed start lanes tape tape_now coming before w.
    put_failed g.Y.DayDesk (works g.L.Link) (IsMomentOf (g.C.Clock.moment c.args.floor.now.clock.now)) c.args.floor.now.roster.now g.met.Y.DayDesk.join start lanes tape tape_now coming before
    c.flush.new.desk c.args.floor.now.lanes.now.items [] false (g.O.Outlet.held c.flush.new.outlet) (g.O.Outlet.held c.put_out.new.self) (g.O.Outlet.sunk c.put_out.new.self) (g.O.Outlet.left c.put_out.new.self) (g.O.Outlet.least c.flush.new.outlet) (g.O.Outlet.waiting c.flush.new.outlet) (g.O.Outlet.least c.put_out.new.self) (g.O.Outlet.waiting c.put_out.new.self)
    (flushed g.Y.DayDesk (works g.L.Link) (IsMomentOf (g.C.Clock.moment c.args.floor.now.clock.now)) c.args.floor.now.roster.now g.met.Y.DayDesk.join start lanes tape tape_now coming before
    c.args.floor.now.desk c.flush.new.desk c.args.floor.now.lanes.now.items c.args.keeping.now.waiting.batch.calls false (g.O.Outlet.held c.args.keeping.now.outlet) (g.O.Outlet.held c.flush.new.outlet) (g.O.Outlet.least c.args.keeping.now.outlet) (g.O.Outlet.waiting c.args.keeping.now.outlet) (g.O.Outlet.least c.flush.new.outlet) (g.O.Outlet.waiting c.flush.new.outlet) w c.in-Ok.ensures.flushes)
    c.put_out.ensures.held failed.1 failed.0 (g.met.O.Outlet.is_held c.put_out.new.self) (g.met.O.Outlet.is_least c.put_out.new.self) (g.met.O.Outlet.is_few c.put_out.new.self))

pub returns-in-Err-clause-fails : goal.returns-in-Err-clause-fails
returns-in-Err-clause-fails g c =
    λ start lanes tape tape_now coming before w.
    flush_failed g.Y.DayDesk (works g.L.Link) (IsMomentOf (g.C.Clock.moment c.args.floor.now.clock.now)) c.args.floor.now.roster.now g.met.Y.DayDesk.join start lanes tape tape_now coming before
    c.args.floor.now.desk c.flush.new.desk c.args.floor.now.lanes.now.items c.args.keeping.now.waiting.batch.calls false (g.O.Outlet.held c.args.keeping.now.outlet) (g.O.Outlet.held c.flush.new.outlet) (g.O.Outlet.sunk c.flush.new.outlet) (g.O.Outlet.left c.flush.new.outlet) (g.O.Outlet.least c.args.keeping.now.outlet) (g.O.Outlet.waiting c.args.keeping.now.outlet) (g.O.Outlet.least c.flush.new.outlet) (g.O.Outlet.waiting c.flush.new.outlet) w c.in-Err.ensures.fails
    (g.met.O.Outlet.is_held c.flush.new.outlet) (g.met.O.Outlet.is_least c.flush.new.outlet) (g.met.O.Outlet.is_few c.flush.new.outlet)

pub returns-in-Err-clause-floor : goal.returns-in-Err-clause-floor
returns-in-Err-clause-floor g c =
    let ran = failed_ran g.Y.DayDesk.runs g.met.Y.DayDesk.none false _ _ _ _ _ _ _ _ _ c.in-Err.ensures.fails in
    floor_on g.Y.DayDesk g.met.Y.DayDesk.same c.args.floor.now _ ran.0 refl c.requires.floor ran.1 c.requires.floor.lanes_are

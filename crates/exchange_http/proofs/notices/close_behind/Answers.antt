-- The notices that wait were taken where the connection closes.
use Rattle.std.proofs.Common.{[], false, refl, true, sym}
use Rattle.exchange_messages.specs.Floors.{IsMomentOf}
use Rattle.fan_out.specs.Lanes.{works}
use Rattle.exchange_http.proofs.Along.{on_ok_both, way_with}
use Rattle.exchange_http.proofs.Flushing.{flush_ran, on_fault, way_close}
use Rattle.exchange_messages.proofs.Requested.{floor_on}
use Rattle.exchange_http.proofs.UnderWay.{flush_failed, flushed}
use Rattle.exchange_http.proofs.notices.close_behind.Goals as goal

pub returns-then-close-clause-goes_on : goal.returns-then-close-clause-goes_on
returns-then-close-clause-goes_on g c =
    on_ok_both c.flush.result c.flush.ensures.empty c.flush.ensures.flushes
    (λ none flushes start lanes tape tape_now coming before w.
    way_with [] c.flush.new.self.batch.calls (sym none)
    (flushed g.Y.DayDesk (works g.L.Link) (IsMomentOf (g.C.Clock.moment c.args.floor.now.clock.now)) c.args.floor.now.roster.now g.met.Y.DayDesk.join start lanes tape tape_now coming before
    c.args.floor.now.desk c.flush.new.desk c.args.floor.now.lanes.now.items c.args.keeping.now.waiting.batch.calls true (g.O.Outlet.held c.args.keeping.now.outlet) (g.O.Outlet.held c.flush.new.outlet) (g.O.Outlet.least c.args.keeping.now.outlet) (g.O.Outlet.waiting c.args.keeping.now.outlet) (g.O.Outlet.least c.flush.new.outlet) (g.O.Outlet.waiting c.flush.new.outlet) (way_close c.args.close true c.if-close.true w) flushes))

pub returns-then-close-clause-fails : goal.returns-then-close-clause-fails
returns-then-close-clause-fails g c =
    on_fault c.flush.result c.flush.ensures.fails
    (λ fails start lanes tape tape_now coming before w.
    flush_failed g.Y.DayDesk (works g.L.Link) (IsMomentOf (g.C.Clock.moment c.args.floor.now.clock.now)) c.args.floor.now.roster.now g.met.Y.DayDesk.join start lanes tape tape_now coming before
    c.args.floor.now.desk c.flush.new.desk c.args.floor.now.lanes.now.items c.args.keeping.now.waiting.batch.calls true (g.O.Outlet.held c.args.keeping.now.outlet) (g.O.Outlet.held c.flush.new.outlet) (g.O.Outlet.sunk c.flush.new.outlet) (g.O.Outlet.left c.flush.new.outlet) (g.O.Outlet.least c.args.keeping.now.outlet) (g.O.Outlet.waiting c.args.keeping.now.outlet) (g.O.Outlet.least c.flush.new.outlet) (g.O.Outlet.waiting c.flush.new.outlet) (way_close c.args.close true c.if-close.true w) fails
    (g.met.O.Outlet.is_held c.flush.new.outlet) (g.met.O.Outlet.is_least c.flush.new.outlet) (g.met.O.Outlet.is_few c.flush.new.outlet))

pub returns-then-close-clause-floor : goal.returns-then-close-clause-floor
returns-then-close-clause-floor g c =
    let ran = flush_ran g.Y.DayDesk.runs g.met.Y.DayDesk.none c.flush.result _ _ _ _ _ _ _ _ _ _ c.flush.ensures.flushes c.flush.ensures.fails in
    floor_on g.Y.DayDesk g.met.Y.DayDesk.same c.args.floor.now _ ran.0 refl c.requires.floor ran.1 c.requires.floor.lanes_are

pub returns-else-close-clause-goes_on : goal.returns-else-close-clause-goes_on
returns-else-close-clause-goes_on g c = λ start lanes tape tape_now coming before w. way_close c.args.close false c.if-close.false w

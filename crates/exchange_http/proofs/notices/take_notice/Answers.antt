-- A notice waits after others, or after none that were taken first.
use Rattle.std.proofs.Common.{◌≡◌, [], ◌∷◌, ◌++◌, false, refl, sym, ◌∙◌}
use Rattle.day_rules.specs.Laws.{Arrival}
use Rattle.exchange_http.specs.Running.{before_one}
use Rattle.exchange_messages.specs.Floors.{IsMomentOf}
use Rattle.fan_out.specs.Lanes.{works}
use Rattle.exchange_http.proofs.Along.{on_ok, way_with}
use Rattle.exchange_http.proofs.Causes.{cause_after}
use Rattle.exchange_http.proofs.Flushing.{added_calls, failed_ran, on_fault, same_calls, way_notices}
use Rattle.exchange_messages.proofs.Requested.{floor_on}
use Rattle.exchange_http.proofs.UnderWay.{flush_failed, flushed, notice_joined}
use Rattle.exchange_http.proofs.notices.take_notice.Goals as goal

pub returns-then-add-clause-goes_on : goal.returns-then-add-clause-goes_on
returns-then-add-clause-goes_on g c =
    let x : Arrival = record { kind = c.args.kind; auction = c.args.auction.now; award = c.args.award } in
    let more : c.add.new.self.batch.calls ≡ c.args.keeping.now.waiting.batch.calls ++ x ∷ [] = added_calls c.add.result c.args.keeping.now.waiting.batch c.add.new.self.batch x c.if-add.true c.add.ensures in
    on_ok c.close_behind.result c.close_behind.ensures.goes_on
    (λ step start lanes tape tape_now coming before m is w.
    let means = is.0 in
    let kept = is.1 in
    step start lanes tape tape_now coming before (way_notices _ c.add.new.self.batch.calls (sym more) (notice_joined g.Y.DayDesk (works g.L.Link) (IsMomentOf (g.C.Clock.moment c.args.floor.now.clock.now)) c.args.floor.now.roster.now g.met.Y.DayDesk.join start lanes tape tape_now coming before c.args.floor.now.desk c.args.floor.now.lanes.now.items c.args.keeping.now.waiting.batch.calls c.args.close (g.O.Outlet.held c.args.keeping.now.outlet) (g.O.Outlet.least c.args.keeping.now.outlet) (g.O.Outlet.waiting c.args.keeping.now.outlet) m x w means kept)))

pub returns-then-add-clause-fails : goal.returns-then-add-clause-fails
returns-then-add-clause-fails g c =
    let x : Arrival = record { kind = c.args.kind; auction = c.args.auction.now; award = c.args.award } in
    let more : c.add.new.self.batch.calls ≡ c.args.keeping.now.waiting.batch.calls ++ x ∷ [] = added_calls c.add.result c.args.keeping.now.waiting.batch c.add.new.self.batch x c.if-add.true c.add.ensures in
    on_fault c.close_behind.result c.close_behind.ensures.fails
    (λ step start lanes tape tape_now coming before m is w.
    let means = is.0 in
    let kept = is.1 in
    step start lanes tape tape_now coming before (way_notices _ c.add.new.self.batch.calls (sym more) (notice_joined g.Y.DayDesk (works g.L.Link) (IsMomentOf (g.C.Clock.moment c.args.floor.now.clock.now)) c.args.floor.now.roster.now g.met.Y.DayDesk.join start lanes tape tape_now coming before c.args.floor.now.desk c.args.floor.now.lanes.now.items c.args.keeping.now.waiting.batch.calls c.args.close (g.O.Outlet.held c.args.keeping.now.outlet) (g.O.Outlet.least c.args.keeping.now.outlet) (g.O.Outlet.waiting c.args.keeping.now.outlet) m x w means kept)))

pub begin_notice-requires-clause-floor : goal.begin_notice-requires-clause-floor
begin_notice-requires-clause-floor g c =
    floor_on g.Y.DayDesk g.met.Y.DayDesk.same c.args.floor.now _ _ refl c.requires.floor c.in-Ok.ensures.flushes.takes.ran c.requires.floor.lanes_are

pub returns-in-Ok-clause-goes_on : goal.returns-in-Ok-clause-goes_on
returns-in-Ok-clause-goes_on g c =
    let x : Arrival = record { kind = c.args.kind; auction = c.args.auction.now; award = c.args.award } in
    let same : c.add.new.self.batch.calls ≡ c.args.keeping.now.waiting.batch.calls = same_calls c.add.result c.args.keeping.now.waiting.batch c.add.new.self.batch x c.if-add.false c.add.ensures in
    on_ok c.begin_notice.result c.begin_notice.ensures.goes_on
    (λ step start lanes tape tape_now coming before m is w.
    step start lanes tape tape_now coming before m is
    (way_with [] c.flush.new.self.batch.calls (sym c.in-Ok.ensures.empty)
    (flushed g.Y.DayDesk (works g.L.Link) (IsMomentOf (g.C.Clock.moment c.args.floor.now.clock.now)) c.args.floor.now.roster.now g.met.Y.DayDesk.join start lanes tape tape_now (before_one m coming) before
    c.args.floor.now.desk c.flush.new.desk c.args.floor.now.lanes.now.items c.add.new.self.batch.calls false (g.O.Outlet.held c.args.keeping.now.outlet) (g.O.Outlet.held c.flush.new.outlet) (g.O.Outlet.least c.args.keeping.now.outlet) (g.O.Outlet.waiting c.args.keeping.now.outlet) (g.O.Outlet.least c.flush.new.outlet) (g.O.Outlet.waiting c.flush.new.outlet) (way_with c.args.keeping.now.waiting.batch.calls c.add.new.self.batch.calls (sym same) w) c.in-Ok.ensures.flushes)))

pub returns-in-Ok-clause-fails : goal.returns-in-Ok-clause-fails
returns-in-Ok-clause-fails g c =
    let x : Arrival = record { kind = c.args.kind; auction = c.args.auction.now; award = c.args.award } in
    let same : c.add.new.self.batch.calls ≡ c.args.keeping.now.waiting.batch.calls = same_calls c.add.result c.args.keeping.now.waiting.batch c.add.new.self.batch x c.if-add.false c.add.ensures in
    on_fault c.begin_notice.result c.begin_notice.ensures.fails
    (λ step start lanes tape tape_now coming before m is w.
    step start lanes tape tape_now coming before m is
    (way_with [] c.flush.new.self.batch.calls (sym c.in-Ok.ensures.empty)
    (flushed g.Y.DayDesk (works g.L.Link) (IsMomentOf (g.C.Clock.moment c.args.floor.now.clock.now)) c.args.floor.now.roster.now g.met.Y.DayDesk.join start lanes tape tape_now (before_one m coming) before
    c.args.floor.now.desk c.flush.new.desk c.args.floor.now.lanes.now.items c.add.new.self.batch.calls false (g.O.Outlet.held c.args.keeping.now.outlet) (g.O.Outlet.held c.flush.new.outlet) (g.O.Outlet.least c.args.keeping.now.outlet) (g.O.Outlet.waiting c.args.keeping.now.outlet) (g.O.Outlet.least c.flush.new.outlet) (g.O.Outlet.waiting c.flush.new.outlet) (way_with c.args.keeping.now.waiting.batch.calls c.add.new.self.batch.calls (sym same) w) c.in-Ok.ensures.flushes)))

pub returns-in-Ok-clause-cause : goal.returns-in-Ok-clause-cause
returns-in-Ok-clause-cause g c = cause_after (g.O.Outlet.faults c.args.keeping.now.outlet) (g.O.Outlet.faults c.flush.new.outlet) (g.O.Outlet.faults c.begin_notice.new.keeping.outlet) c.begin_notice.result c.in-Ok.ensures.cause.passed c.begin_notice.ensures.cause

pub returns-in-Err-clause-fails : goal.returns-in-Err-clause-fails
returns-in-Err-clause-fails g c =
    let x : Arrival = record { kind = c.args.kind; auction = c.args.auction.now; award = c.args.award } in
    let same : c.add.new.self.batch.calls ≡ c.args.keeping.now.waiting.batch.calls = same_calls c.add.result c.args.keeping.now.waiting.batch c.add.new.self.batch x c.if-add.false c.add.ensures in
    λ start lanes tape tape_now coming before m is w.
    flush_failed g.Y.DayDesk (works g.L.Link) (IsMomentOf (g.C.Clock.moment c.args.floor.now.clock.now)) c.args.floor.now.roster.now g.met.Y.DayDesk.join start lanes tape tape_now (before_one m coming) before
    c.args.floor.now.desk c.flush.new.desk c.args.floor.now.lanes.now.items c.add.new.self.batch.calls false (g.O.Outlet.held c.args.keeping.now.outlet) (g.O.Outlet.held c.flush.new.outlet) (g.O.Outlet.sunk c.flush.new.outlet) (g.O.Outlet.left c.flush.new.outlet) (g.O.Outlet.least c.args.keeping.now.outlet) (g.O.Outlet.waiting c.args.keeping.now.outlet) (g.O.Outlet.least c.flush.new.outlet) (g.O.Outlet.waiting c.flush.new.outlet) (way_with c.args.keeping.now.waiting.batch.calls c.add.new.self.batch.calls (sym same) w) c.in-Err.ensures.fails
    (g.met.O.Outlet.is_held c.flush.new.outlet) (g.met.O.Outlet.is_least c.flush.new.outlet) (g.met.O.Outlet.is_few c.flush.new.outlet)

pub returns-in-Err-clause-floor : goal.returns-in-Err-clause-floor
returns-in-Err-clause-floor g c =
    let ran = failed_ran g.Y.DayDesk.runs g.met.Y.DayDesk.none false _ _ _ _ _ _ _ _ _ c.in-Err.ensures.fails in
    floor_on g.Y.DayDesk g.met.Y.DayDesk.same c.args.floor.now _ ran.0 refl c.requires.floor ran.1 c.requires.floor.lanes_are

pub returns-in-Ok-clause-kept : goal.returns-in-Ok-clause-kept
returns-in-Ok-clause-kept g c =
    let k = c.begin_notice.ensures.kept in
    record { roster = k.roster; clock = k.clock; gatherer = k.gatherer; desk = k.desk ∙ c.flush.ensures.desk; lanes = k.lanes }

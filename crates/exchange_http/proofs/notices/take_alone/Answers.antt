-- A notice was taken alone.
use Rattle.std.proofs.Common.{[], ◌∷◌, refl}
use Rattle.day_rules.specs.Laws.{Arrival}
use Rattle.exchange_http.specs.Running.{before_one}
use Rattle.exchange_messages.specs.Floors.{IsMomentOf}
use Rattle.fan_out.specs.Lanes.{works}
use Rattle.exchange_http.proofs.Causes.{cause_after, cause_of_write}
use Rattle.exchange_http.proofs.Flushing.{all_flushed, part_flushed, wrote_cause}
use Rattle.exchange_messages.proofs.Requested.{floor_on}
use Rattle.exchange_http.proofs.UnderWay.{flush_failed, flushed, notice_joined, put_failed}
use Rattle.exchange_http.proofs.notices.take_alone.Goals as goal

pub returns-in-Ok-write_outcome-clause-goes_on : goal.returns-in-Ok-write_outcome-clause-goes_on
returns-in-Ok-write_outcome-clause-goes_on g c =
    λ start lanes tape tape_now coming before m is w.
    let means = is.0 in
    let kept = is.1 in
    let x : Arrival = record { kind = c.args.kind; auction = c.args.auction.now; award = c.args.award } in
    let o = c.in-Ok-write_outcome.ensures in
    flushed g.Y.DayDesk (works g.L.Link) (IsMomentOf (g.C.Clock.moment c.args.floor.now.clock.now)) c.args.floor.now.roster.now g.met.Y.DayDesk.join start lanes tape tape_now coming before
    c.args.floor.now.desk c.take_one-outcome.new.desk c.args.floor.now.lanes.now.items (x ∷ []) c.args.close (g.O.Outlet.held c.args.outlet.now) (g.O.Outlet.held c.write_outcome.new.outlet) (g.O.Outlet.least c.args.outlet.now) (g.O.Outlet.waiting c.args.outlet.now) (g.O.Outlet.least c.write_outcome.new.outlet) (g.O.Outlet.waiting c.write_outcome.new.outlet)
    (notice_joined g.Y.DayDesk (works g.L.Link) (IsMomentOf (g.C.Clock.moment c.args.floor.now.clock.now)) c.args.floor.now.roster.now g.met.Y.DayDesk.join start lanes tape tape_now coming before c.args.floor.now.desk c.args.floor.now.lanes.now.items [] c.args.close (g.O.Outlet.held c.args.outlet.now) (g.O.Outlet.least c.args.outlet.now) (g.O.Outlet.waiting c.args.outlet.now) m x w means kept)
    (all_flushed g.Y.DayDesk c.args.close 1 (x ∷ []) c.args.floor.now.desk c.take_one-outcome.new.desk (c.take_one-outcome.result ∷ []) (g.O.Outlet.held c.args.outlet.now) (g.O.Outlet.held c.expect.new.self) (g.O.Outlet.held c.write_outcome.new.outlet) (g.O.Outlet.least c.args.outlet.now) (g.O.Outlet.waiting c.args.outlet.now) (g.O.Outlet.least c.expect.new.self) (g.O.Outlet.waiting c.expect.new.self) (g.O.Outlet.least c.write_outcome.new.outlet) (g.O.Outlet.waiting c.write_outcome.new.outlet)
    refl c.take_one-outcome.ensures.takes c.expect.ensures.held c.in-Ok.ensures.moves o.same.0 o.same.1 o.written)

pub returns-in-Ok-write_outcome-clause-floor : goal.returns-in-Ok-write_outcome-clause-floor
returns-in-Ok-write_outcome-clause-floor g c =
    floor_on g.Y.DayDesk g.met.Y.DayDesk.same c.args.floor.now _ _ refl c.requires.floor c.take_one-outcome.ensures.takes.ran c.requires.floor.lanes_are

pub returns-in-Ok-write_outcome-clause-cause : goal.returns-in-Ok-write_outcome-clause-cause
returns-in-Ok-write_outcome-clause-cause g c = wrote_cause (g.O.Outlet.faults c.args.outlet.now) (g.O.Outlet.faults c.expect.new.self) (g.O.Outlet.faults c.write_outcome.new.outlet) tt c.in-Ok.ensures.cause.passed c.in-Ok-write_outcome.ensures.cause

pub returns-in-Err-write_outcome-clause-fails : goal.returns-in-Err-write_outcome-clause-fails
returns-in-Err-write_outcome-clause-fails g c =
    λ start lanes tape tape_now coming before m is w.
    let means = is.0 in
    let kept = is.1 in
    let x : Arrival = record { kind = c.args.kind; auction = c.args.auction.now; award = c.args.award } in
    let o = c.in-Err-write_outcome.ensures in
    flush_failed g.Y.DayDesk (works g.L.Link) (IsMomentOf (g.C.Clock.moment c.args.floor.now.clock.now)) c.args.floor.now.roster.now g.met.Y.DayDesk.join start lanes tape tape_now coming before
    c.args.floor.now.desk c.take_one-outcome.new.desk c.args.floor.now.lanes.now.items (x ∷ []) c.args.close (g.O.Outlet.held c.args.outlet.now) (g.O.Outlet.held c.write_outcome.new.outlet) (g.O.Outlet.sunk c.write_outcome.new.outlet) (g.O.Outlet.left c.write_outcome.new.outlet) (g.O.Outlet.least c.args.outlet.now) (g.O.Outlet.waiting c.args.outlet.now) (g.O.Outlet.least c.write_outcome.new.outlet) (g.O.Outlet.waiting c.write_outcome.new.outlet)
    (notice_joined g.Y.DayDesk (works g.L.Link) (IsMomentOf (g.C.Clock.moment c.args.floor.now.clock.now)) c.args.floor.now.roster.now g.met.Y.DayDesk.join start lanes tape tape_now coming before c.args.floor.now.desk c.args.floor.now.lanes.now.items [] c.args.close (g.O.Outlet.held c.args.outlet.now) (g.O.Outlet.least c.args.outlet.now) (g.O.Outlet.waiting c.args.outlet.now) m x w means kept)
    (part_flushed g.Y.DayDesk c.args.close 1 (x ∷ []) c.args.floor.now.desk c.take_one-outcome.new.desk (c.take_one-outcome.result ∷ []) (g.O.Outlet.held c.args.outlet.now) (g.O.Outlet.held c.expect.new.self) (g.O.Outlet.held c.write_outcome.new.outlet) (g.O.Outlet.least c.args.outlet.now) (g.O.Outlet.waiting c.args.outlet.now) (g.O.Outlet.least c.expect.new.self) (g.O.Outlet.waiting c.expect.new.self) (g.O.Outlet.least c.write_outcome.new.outlet) (g.O.Outlet.waiting c.write_outcome.new.outlet)
    refl c.take_one-outcome.ensures.takes c.expect.ensures.held c.in-Ok.ensures.moves o.same.0 o.same.1 _ o.written)
    (g.met.O.Outlet.is_held c.write_outcome.new.outlet) (g.met.O.Outlet.is_least c.write_outcome.new.outlet) (g.met.O.Outlet.is_few c.write_outcome.new.outlet)

pub returns-in-Err-write_outcome-clause-floor : goal.returns-in-Err-write_outcome-clause-floor
returns-in-Err-write_outcome-clause-floor g c =
    floor_on g.Y.DayDesk g.met.Y.DayDesk.same c.args.floor.now _ _ refl c.requires.floor c.take_one-outcome.ensures.takes.ran c.requires.floor.lanes_are

pub returns-in-Err-write_outcome-clause-cause : goal.returns-in-Err-write_outcome-clause-cause
returns-in-Err-write_outcome-clause-cause g c =
    cause_after (g.O.Outlet.faults c.args.outlet.now) (g.O.Outlet.faults c.expect.new.self) (g.O.Outlet.faults c.write_outcome.new.outlet) _ c.in-Ok.ensures.cause.passed (cause_of_write (g.O.Outlet.faults c.expect.new.self) (g.O.Outlet.faults c.write_outcome.new.outlet) _ _ c.in-Err-write_outcome.ensures.cause)

pub returns-in-Err-clause-fails : goal.returns-in-Err-clause-fails
returns-in-Err-clause-fails g c =
    λ start lanes tape tape_now coming before m is w.
    put_failed g.Y.DayDesk (works g.L.Link) (IsMomentOf (g.C.Clock.moment c.args.floor.now.clock.now)) c.args.floor.now.roster.now g.met.Y.DayDesk.join start lanes tape tape_now (before_one m coming) before
    c.args.floor.now.desk c.args.floor.now.lanes.now.items [] _ (g.O.Outlet.held c.args.outlet.now) (g.O.Outlet.held c.expect.new.self) (g.O.Outlet.sunk c.expect.new.self) (g.O.Outlet.left c.expect.new.self) (g.O.Outlet.least c.args.outlet.now) (g.O.Outlet.waiting c.args.outlet.now) (g.O.Outlet.least c.expect.new.self) (g.O.Outlet.waiting c.expect.new.self)
    w c.expect.ensures.held c.in-Err.ensures.failed.1 c.in-Err.ensures.failed.0 (g.met.O.Outlet.is_held c.expect.new.self) (g.met.O.Outlet.is_least c.expect.new.self) (g.met.O.Outlet.is_few c.expect.new.self)

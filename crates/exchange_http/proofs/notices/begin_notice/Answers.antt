-- A notice waits after none, or was taken alone.
use Rattle.std.proofs.Common.{◌≡◌, [], ◌∷◌, ◌++◌, sym, ◌∙◌}
use Rattle.day_rules.specs.Laws.{Arrival}
use Rattle.exchange_messages.specs.Floors.{IsMomentOf}
use Rattle.fan_out.specs.Lanes.{works}
use Rattle.exchange_http.proofs.Along.{on_ok, way_with}
use Rattle.exchange_http.proofs.Flushing.{added_calls, on_fault, same_calls, way_notices}
use Rattle.exchange_http.proofs.UnderWay.{notice_joined}
use Rattle.exchange_http.proofs.notices.begin_notice.Goals as goal

pub returns-then-add-clause-goes_on : goal.returns-then-add-clause-goes_on
returns-then-add-clause-goes_on g c =
    let x : Arrival = record { kind = c.args.kind; auction = c.args.auction.now; award = c.args.award } in
    let more : c.add.new.self.batch.calls ≡ c.args.keeping.now.waiting.batch.calls ++ x ∷ [] = added_calls c.add.result c.args.keeping.now.waiting.batch c.add.new.self.batch x c.if-add.true c.add.ensures in
    on_ok c.close_behind.result c.close_behind.ensures.goes_on
    (λ step start lanes tape tape_now coming before m is w.
    let means = is.0 in
    let kept = is.1 in
    step start lanes tape tape_now coming before (way_notices _ c.add.new.self.batch.calls (sym more) (notice_joined g.Y.DayDesk (works g.L.Link) (IsMomentOf (g.C.Clock.moment c.args.floor.now.clock.now)) c.args.floor.now.roster.now g.met.Y.DayDesk.join start lanes tape tape_now coming before c.args.floor.now.desk c.args.floor.now.lanes.now.items c.args.keeping.now.waiting.batch.calls c.args.close (g.O.Outlet.held c.args.keeping.now.outlet) (g.O.Outlet.least c.args.keeping.now.outlet) (g.O.Outlet.waiting c.args.keeping.now.outlet) m x w means kept)))

pub returns-then-add-clause-fails : goal.returns-then-add-clause-fails
returns-then-add-clause-fails g c =
    let x : Arrival = record { kind = c.args.kind; auction = c.args.auction.now; award = c.args.award } in
    let more : c.add.new.self.batch.calls ≡ c.args.keeping.now.waiting.batch.calls ++ x ∷ [] = added_calls c.add.result c.args.keeping.now.waiting.batch c.add.new.self.batch x c.if-add.true c.add.ensures in
    on_fault c.close_behind.result c.close_behind.ensures.fails
    (λ step start lanes tape tape_now coming before m is w.
    let means = is.0 in
    let kept = is.1 in
    step start lanes tape tape_now coming before (way_notices _ c.add.new.self.batch.calls (sym more) (notice_joined g.Y.DayDesk (works g.L.Link) (IsMomentOf (g.C.Clock.moment c.args.floor.now.clock.now)) c.args.floor.now.roster.now g.met.Y.DayDesk.join start lanes tape tape_now coming before c.args.floor.now.desk c.args.floor.now.lanes.now.items c.args.keeping.now.waiting.batch.calls c.args.close (g.O.Outlet.held c.args.keeping.now.outlet) (g.O.Outlet.least c.args.keeping.now.outlet) (g.O.Outlet.waiting c.args.keeping.now.outlet) m x w means kept)))

pub returns-else-add-clause-goes_on : goal.returns-else-add-clause-goes_on
returns-else-add-clause-goes_on g c =
    let x : Arrival = record { kind = c.args.kind; auction = c.args.auction.now; award = c.args.award } in
    let none : c.add.new.self.batch.calls ≡ [] = same_calls c.add.result c.args.keeping.now.waiting.batch c.add.new.self.batch x c.if-add.false c.add.ensures ∙ c.requires.none in
    on_ok c.take_alone.result c.take_alone.ensures.goes_on
    (λ step start lanes tape tape_now coming before m is w.
    way_with [] c.add.new.self.batch.calls (sym none) (step start lanes tape tape_now coming before m is (way_with c.args.keeping.now.waiting.batch.calls [] c.requires.none w)))

pub returns-else-add-clause-fails : goal.returns-else-add-clause-fails
returns-else-add-clause-fails g c =
    on_fault c.take_alone.result c.take_alone.ensures.fails
    (λ step start lanes tape tape_now coming before m is w.
    step start lanes tape tape_now coming before m is (way_with c.args.keeping.now.waiting.batch.calls [] c.requires.none w))

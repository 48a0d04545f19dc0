-- One message more, after the notices that waited and with all replies put.
use Rattle.exchange_messages.proofs.Requested.{kept_on}
use Rattle.fan_out.specs.Lanes.{works}
use Rattle.std.proofs.Common.{◌≡◌, [], refl, sym, ap, ◌∙◌}
use Rattle.exchange_http.specs.Running.{before_one, end_of}
use Rattle.exchange_http.proofs.Along.{EndsBy, along, on_err, on_ok, way_along, way_with}
use Rattle.exchange_http.proofs.Causes.{causes_behind, stops_failing}
use Rattle.exchange_http.proofs.others.take_other.Goals as goal

pub returns-in-Ok-clause-goes_on : goal.returns-in-Ok-clause-goes_on
returns-in-Ok-clause-goes_on g c =
    let same_roster : c.put_all_out.new.floor.roster.now ≡ c.args.floor.now.roster.now = cc c.put_all_out.ensures.kept.roster in
    let same_clock : (g.C.Clock.moment c.put_all_out.new.floor.clock.now) ≡ (g.C.Clock.moment c.args.floor.now.clock.now) = cc c.put_all_out.ensures.kept.clock in
    let none : c.answer_other.new.keeping.waiting.batch.calls ≡ [] = ap (λ (w : _). w.batch.calls) c.answer_other.ensures.waiting ∙ c.in-Ok.ensures.empty in
    on_ok c.answer_other.result c.answer_other.ensures.goes_on
    (λ step start lanes tape tape_now coming before m is w.
    way_along c.args.floor.now.roster.now c.put_all_out.new.floor.roster.now (g.C.Clock.moment c.args.floor.now.clock.now) (g.C.Clock.moment c.put_all_out.new.floor.clock.now) same_roster same_clock
    (way_with [] c.answer_other.new.keeping.waiting.batch.calls (sym none)
    (step start lanes tape tape_now coming before m is (way_along c.put_all_out.new.floor.roster.now c.args.floor.now.roster.now (g.C.Clock.moment c.put_all_out.new.floor.clock.now) (g.C.Clock.moment c.args.floor.now.clock.now) (sym same_roster) (sym same_clock) (c.in-Ok.ensures.goes_on start lanes tape tape_now (before_one m coming) before w)))))

pub returns-in-Ok-clause-stops : goal.returns-in-Ok-clause-stops
returns-in-Ok-clause-stops g c =
    let same_roster : c.put_all_out.new.floor.roster.now ≡ c.args.floor.now.roster.now = cc c.put_all_out.ensures.kept.roster in
    let same_clock : (g.C.Clock.moment c.put_all_out.new.floor.clock.now) ≡ (g.C.Clock.moment c.args.floor.now.clock.now) = cc c.put_all_out.ensures.kept.clock in
    on_err c.answer_other.result c.answer_other.ensures.stops
    (λ stop step start lanes tape tape_now coming before m is w.
    along (EndsBy g.Y.DayDesk (works g.L.Link) start lanes tape tape_now before c.answer_other.new.floor.desk c.answer_other.new.floor.lanes.now.items (g.O.Outlet.sunk c.answer_other.new.keeping.outlet) (end_of stop)) c.args.floor.now.roster.now c.put_all_out.new.floor.roster.now (g.C.Clock.moment c.args.floor.now.clock.now) (g.C.Clock.moment c.put_all_out.new.floor.clock.now) same_roster same_clock
    (step start lanes tape tape_now coming before m is (way_along c.put_all_out.new.floor.roster.now c.args.floor.now.roster.now (g.C.Clock.moment c.put_all_out.new.floor.clock.now) (g.C.Clock.moment c.args.floor.now.clock.now) (sym same_roster) (sym same_clock) (c.in-Ok.ensures.goes_on start lanes tape tape_now (before_one m coming) before w))))

pub returns-in-Ok-clause-causes : goal.returns-in-Ok-clause-causes
returns-in-Ok-clause-causes g c = causes_behind (g.O.Outlet.faults c.args.keeping.now.outlet) (g.O.Outlet.faults c.put_all_out.new.keeping.outlet) (g.O.Outlet.faults c.answer_other.new.keeping.outlet) c.answer_other.result c.in-Ok.ensures.cause.passed c.answer_other.ensures.causes

pub returns-in-Err-clause-stops : goal.returns-in-Err-clause-stops
returns-in-Err-clause-stops g c = λ start lanes tape tape_now coming before m is w. c.in-Err.ensures.fails start lanes tape tape_now (before_one m coming) before w

pub returns-in-Err-clause-causes : goal.returns-in-Err-clause-causes
returns-in-Err-clause-causes g c = stops_failing (g.O.Outlet.faults c.args.keeping.now.outlet) (g.O.Outlet.faults c.args.keeping.now.outlet) (g.O.Outlet.faults c.put_all_out.new.keeping.outlet) _ refl c.in-Err.ensures.cause

pub answer_other-requires-clause-always : goal.answer_other-requires-clause-always
answer_other-requires-clause-always g c = rw (sym c.put_all_out.ensures.kept.gatherer) at c.requires.always

pub answer_other-requires-clause-gives : goal.answer_other-requires-clause-gives
answer_other-requires-clause-gives g c = rw (sym c.put_all_out.ensures.kept.gatherer) at c.requires.gives

pub returns-in-Ok-clause-kept : goal.returns-in-Ok-clause-kept
returns-in-Ok-clause-kept g c = kept_on g.Y.DayDesk c.args.floor.now c.put_all_out.new.floor c.answer_other.new.floor c.put_all_out.ensures.kept c.answer_other.ensures.kept

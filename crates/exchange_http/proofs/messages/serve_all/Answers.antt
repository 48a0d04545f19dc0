-- The connection goes on by its messages, and they are over.
use Rattle.std.proofs.Common.{◌≡◌, suc, ◌+◌, Option, Result, Some, None, Ok, IfOk, IsNone, false, refl, sym, ap, ◌∙◌, subst, arith}
use Rattle.exchange_http.specs.Running.{StepCauses, StepGives, end_of}
use Rattle.exchange_messages.specs.Floors.{IsMomentOf}
use Rattle.fan_out.specs.Lanes.{works}
use Rattle.exchange_http.specs.declared.over.Over.{Over}
use Rattle.exchange_http.specs.declared.stop.Stop.{Stop}
use Rattle.exchange_messages.proofs.Requested.{kept_on}
use Rattle.exchange_http.proofs.Along.{EndsBy, along, way_along, way_count}
use Rattle.exchange_http.proofs.Causes.{over_later, stops_later}
use Rattle.exchange_http.proofs.Nexts.{all_come}
use Rattle.exchange_http.proofs.messages.serve_all.Goals as goal

pub messages-init : goal.messages-init
messages-init g c = record {
  sound = c.requires.sound;
  limit = c.requires.limit;
  floor = c.requires.floor;
  kept = record { roster = refl; clock = refl; gatherer = refl; desk = refl; lanes = refl };
  way = λ start lanes tape before w. w;
  read = refl;
  write = refl;
  source = refl;
  place = refl;
}

pub messages-preserved : goal.messages-preserved
messages-preserved g c =
    let result_is : c.serve_next.result ≡ Ok None = c.in-Ok-None.is ∙ ap Ok c.in-Ok-None.field-0-is in
    let sound = subst (λ (r : Result (Option Over) Stop). IfOk r (λ over. IsNone over → c.serve_next.new.conn.failed ≡ false)) result_is c.serve_next.ensures.goes_on in
    let causes = subst (λ (r : Result (Option Over) Stop). StepCauses (g.S.Source.faults c.messages.source) (g.S.Source.faults c.serve_next.new.source) (g.O.Outlet.faults c.messages.keeping.outlet) (g.O.Outlet.faults c.serve_next.new.keeping.outlet) r) result_is c.serve_next.ensures.causes in
    let same_roster : c.messages.floor.roster.now ≡ c.args.floor.now.roster.now = cc c.messages.invariant.kept.roster in
    let same_clock : g.C.Clock.moment c.messages.floor.clock.now ≡ (g.C.Clock.moment c.args.floor.now.clock.now) = cc c.messages.invariant.kept.clock in
    record {
      sound = sound refl;
      limit = c.serve_next.ensures.limit ∙ c.messages.invariant.limit;
      floor = c.serve_next.ensures.floor;
      kept = kept_on g.Y.DayDesk c.args.floor.now c.messages.floor c.serve_next.new.floor c.messages.invariant.kept c.serve_next.ensures.kept;
      way = λ start lanes tape before w.
          let gives = c.serve_next.ensures.gives start lanes tape c.messages._served before c.messages-test.true (way_along c.messages.floor.roster.now c.args.floor.now.roster.now (g.C.Clock.moment c.messages.floor.clock.now) (g.C.Clock.moment c.args.floor.now.clock.now) (sym same_roster) (sym same_clock) (c.messages.invariant.way start lanes tape before w)) in
          way_count (suc c.messages._served) (c.messages._served + 1) (omega arith) (way_along c.args.floor.now.roster.now c.messages.floor.roster.now (g.C.Clock.moment c.args.floor.now.clock.now) (g.C.Clock.moment c.messages.floor.clock.now) same_roster same_clock (subst (λ (r : Result (Option Over) Stop). StepGives g.Y.DayDesk (works g.L.Link) (IsMomentOf (g.C.Clock.moment c.messages.floor.clock.now)) c.messages.floor.roster.now start lanes tape (g.S.Source.tape c.serve_next.new.source) c.serve_next.new.conn.held (suc c.messages._served) before c.serve_next.new.floor.desk c.serve_next.new.floor.lanes.now.items c.serve_next.new.keeping.waiting.batch.calls (g.O.Outlet.held c.serve_next.new.keeping.outlet) (g.O.Outlet.sunk c.serve_next.new.keeping.outlet) (g.O.Outlet.least c.serve_next.new.keeping.outlet) (g.O.Outlet.waiting c.serve_next.new.keeping.outlet) r) result_is gives));
      read = causes.0 ∙ c.messages.invariant.read;
      write = causes.1 ∙ c.messages.invariant.write;
      source = c.serve_next.ensures.source ∙ c.messages.invariant.source;
      place = c.serve_next.ensures.place ∙ c.messages.invariant.place;
    }

pub returns-in-Ok-Some-clause-over : goal.returns-in-Ok-Some-clause-over
returns-in-Ok-Some-clause-over g c =
    let result_is : c.serve_next.result ≡ Ok (Some c.in-Ok-Some.over) = c.in-Ok-Some.is ∙ ap Ok c.in-Ok-Some.field-0-is in
    let same_roster : c.messages.floor.roster.now ≡ c.args.floor.now.roster.now = cc c.messages.invariant.kept.roster in
    let same_clock : g.C.Clock.moment c.messages.floor.clock.now ≡ (g.C.Clock.moment c.args.floor.now.clock.now) = cc c.messages.invariant.kept.clock in
    λ start lanes tape before w.
    let gives = c.serve_next.ensures.gives start lanes tape c.messages._served before c.messages-test.true (way_along c.messages.floor.roster.now c.args.floor.now.roster.now (g.C.Clock.moment c.messages.floor.clock.now) (g.C.Clock.moment c.args.floor.now.clock.now) (sym same_roster) (sym same_clock) (c.messages.invariant.way start lanes tape before w)) in
    way_along c.args.floor.now.roster.now c.messages.floor.roster.now (g.C.Clock.moment c.args.floor.now.clock.now) (g.C.Clock.moment c.messages.floor.clock.now) same_roster same_clock (subst (λ (r : Result (Option Over) Stop). StepGives g.Y.DayDesk (works g.L.Link) (IsMomentOf (g.C.Clock.moment c.messages.floor.clock.now)) c.messages.floor.roster.now start lanes tape (g.S.Source.tape c.serve_next.new.source) c.serve_next.new.conn.held (suc c.messages._served) before c.serve_next.new.floor.desk c.serve_next.new.floor.lanes.now.items c.serve_next.new.keeping.waiting.batch.calls (g.O.Outlet.held c.serve_next.new.keeping.outlet) (g.O.Outlet.sunk c.serve_next.new.keeping.outlet) (g.O.Outlet.least c.serve_next.new.keeping.outlet) (g.O.Outlet.waiting c.serve_next.new.keeping.outlet) r) result_is gives)

pub returns-in-Ok-Some-clause-causes : goal.returns-in-Ok-Some-clause-causes
returns-in-Ok-Some-clause-causes g c =
    let result_is : c.serve_next.result ≡ Ok (Some c.in-Ok-Some.over) = c.in-Ok-Some.is ∙ ap Ok c.in-Ok-Some.field-0-is in
    let causes = subst (λ (r : Result (Option Over) Stop). StepCauses (g.S.Source.faults c.messages.source) (g.S.Source.faults c.serve_next.new.source) (g.O.Outlet.faults c.messages.keeping.outlet) (g.O.Outlet.faults c.serve_next.new.keeping.outlet) r) result_is c.serve_next.ensures.causes in
    (over_later (g.S.Source.faults c.args.source.now) (g.S.Source.faults c.messages.source) (g.S.Source.faults c.serve_next.new.source) c.in-Ok-Some.over c.messages.invariant.read causes.0, causes.1 ∙ c.messages.invariant.write)

pub returns-in-Err-clause-stops : goal.returns-in-Err-clause-stops
returns-in-Err-clause-stops g c =
    let same_roster : c.messages.floor.roster.now ≡ c.args.floor.now.roster.now = cc c.messages.invariant.kept.roster in
    let same_clock : g.C.Clock.moment c.messages.floor.clock.now ≡ (g.C.Clock.moment c.args.floor.now.clock.now) = cc c.messages.invariant.kept.clock in
    λ start lanes tape before w.
    let gives = c.serve_next.ensures.gives start lanes tape c.messages._served before c.messages-test.true (way_along c.messages.floor.roster.now c.args.floor.now.roster.now (g.C.Clock.moment c.messages.floor.clock.now) (g.C.Clock.moment c.args.floor.now.clock.now) (sym same_roster) (sym same_clock) (c.messages.invariant.way start lanes tape before w)) in
    along (EndsBy g.Y.DayDesk (works g.L.Link) start lanes tape (g.S.Source.tape c.serve_next.new.source) before c.serve_next.new.floor.desk c.serve_next.new.floor.lanes.now.items (g.O.Outlet.sunk c.serve_next.new.keeping.outlet) (end_of c.in-Err.stop)) c.args.floor.now.roster.now c.messages.floor.roster.now (g.C.Clock.moment c.args.floor.now.clock.now) (g.C.Clock.moment c.messages.floor.clock.now) same_roster same_clock (subst (λ (r : Result (Option Over) Stop). StepGives g.Y.DayDesk (works g.L.Link) (IsMomentOf (g.C.Clock.moment c.messages.floor.clock.now)) c.messages.floor.roster.now start lanes tape (g.S.Source.tape c.serve_next.new.source) c.serve_next.new.conn.held (suc c.messages._served) before c.serve_next.new.floor.desk c.serve_next.new.floor.lanes.now.items c.serve_next.new.keeping.waiting.batch.calls (g.O.Outlet.held c.serve_next.new.keeping.outlet) (g.O.Outlet.sunk c.serve_next.new.keeping.outlet) (g.O.Outlet.least c.serve_next.new.keeping.outlet) (g.O.Outlet.waiting c.serve_next.new.keeping.outlet) r) c.in-Err.is gives)

pub returns-in-Err-clause-causes : goal.returns-in-Err-clause-causes
returns-in-Err-clause-causes g c =
    stops_later (g.S.Source.faults c.args.source.now) (g.S.Source.faults c.messages.source) (g.S.Source.faults c.serve_next.new.source) (g.O.Outlet.faults c.args.keeping.now.outlet) (g.O.Outlet.faults c.messages.keeping.outlet) (g.O.Outlet.faults c.serve_next.new.keeping.outlet) c.in-Err.stop c.messages.invariant.read c.messages.invariant.write
    (subst (λ (r : Result (Option Over) Stop). StepCauses (g.S.Source.faults c.messages.source) (g.S.Source.faults c.serve_next.new.source) (g.O.Outlet.faults c.messages.keeping.outlet) (g.O.Outlet.faults c.serve_next.new.keeping.outlet) r) c.in-Err.is c.serve_next.ensures.causes)

pub returns-clause-over : goal.returns-clause-over
returns-clause-over g c =
    λ start lanes tape before w.
    all_come g.Y.DayDesk (works g.L.Link) (IsMomentOf (g.C.Clock.moment c.args.floor.now.clock.now)) c.args.floor.now.roster.now start lanes tape (g.S.Source.tape c.messages.source) c.messages.conn.held c.messages._served before c.messages.floor.desk c.messages.floor.lanes.now.items c.messages.keeping.waiting.batch.calls (g.O.Outlet.held c.messages.keeping.outlet) (g.O.Outlet.least c.messages.keeping.outlet) (g.O.Outlet.waiting c.messages.keeping.outlet)
    (omega (arith, c.messages-test.false, c.messages.auto._served-end)) (c.messages.invariant.way start lanes tape before w)

pub returns-clause-causes : goal.returns-clause-causes
returns-clause-causes g c = (c.messages.invariant.read, c.messages.invariant.write)

pub serve_next-requires-clause-floor : goal.serve_next-requires-clause-floor
serve_next-requires-clause-floor g c = c.messages.invariant.floor

pub serve_next-requires-clause-sound : goal.serve_next-requires-clause-sound
serve_next-requires-clause-sound g c = c.messages.invariant.sound

pub serve_next-requires-clause-limit : goal.serve_next-requires-clause-limit
serve_next-requires-clause-limit g c = c.messages.invariant.limit

pub returns-in-Ok-Some-clause-kept : goal.returns-in-Ok-Some-clause-kept
returns-in-Ok-Some-clause-kept g c = kept_on g.Y.DayDesk c.args.floor.now c.messages.floor c.serve_next.new.floor c.messages.invariant.kept c.serve_next.ensures.kept

pub returns-in-Ok-Some-clause-source : goal.returns-in-Ok-Some-clause-source
returns-in-Ok-Some-clause-source g c = c.serve_next.ensures.source ∙ c.messages.invariant.source

pub returns-in-Ok-Some-clause-place : goal.returns-in-Ok-Some-clause-place
returns-in-Ok-Some-clause-place g c = c.serve_next.ensures.place ∙ c.messages.invariant.place

pub returns-in-Err-clause-kept : goal.returns-in-Err-clause-kept
returns-in-Err-clause-kept g c = kept_on g.Y.DayDesk c.args.floor.now c.messages.floor c.serve_next.new.floor c.messages.invariant.kept c.serve_next.ensures.kept

pub returns-in-Err-clause-source : goal.returns-in-Err-clause-source
returns-in-Err-clause-source g c = c.serve_next.ensures.source ∙ c.messages.invariant.source

pub returns-in-Err-clause-place : goal.returns-in-Err-clause-place
returns-in-Err-clause-place g c = c.serve_next.ensures.place ∙ c.messages.invariant.place

pub returns-clause-floor : goal.returns-clause-floor
returns-clause-floor g c = c.messages.invariant.floor

pub returns-clause-kept : goal.returns-clause-kept
returns-clause-kept g c = c.messages.invariant.kept

pub returns-clause-source : goal.returns-clause-source
returns-clause-source g c = c.messages.invariant.source

pub returns-clause-place : goal.returns-clause-place
returns-clause-place g c = c.messages.invariant.place

pub serve_next-requires-clause-always : goal.serve_next-requires-clause-always
serve_next-requires-clause-always g c = rw (sym c.messages.invariant.kept.gatherer) at c.requires.always

pub serve_next-requires-clause-gives : goal.serve_next-requires-clause-gives
serve_next-requires-clause-gives g c = rw (sym c.messages.invariant.kept.gatherer) at c.requires.gives

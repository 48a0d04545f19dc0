-- The notices that wait were taken, and their replies gathered.
use Rattle.std.proofs.Common.{inl, refl, sym, ◌∙◌}
use Rattle.exchange_http.proofs.BatchCalls.{emptied}
use Rattle.exchange_http.proofs.Causes.{cause_after, cause_of_write}
use Rattle.exchange_http.proofs.Flushing.{all_flushed, no_items, none_flushed, part_flushed, wrote_cause}
use Rattle.exchange_http.proofs.waiting.Waiting.flush.Goals as goal

pub invariant_of-self : goal.invariant_of-self
invariant_of-self g c =
    let now = emptied c.take_all.new.batch c.take_all.ensures.empty in
    record { waits = now.0; few = now.1; apart = now.2; room = c.take_all.ensures.room }

pub returns-then-count-eq0-clause-flushes : goal.returns-then-count-eq0-clause-flushes
returns-then-count-eq0-clause-flushes g c =
    none_flushed g.Y.DayDesk c.args.close c.args.self.now.batch.calls c.args.desk.now (g.O.Outlet.held c.args.outlet.now) (g.O.Outlet.least c.args.outlet.now) (g.O.Outlet.waiting c.args.outlet.now)
    (sym c.len-count.ensures.value ∙ c.if-count-eq0.true) (g.met.Y.DayDesk.none c.args.desk.now)

pub returns-then-count-eq0-clause-empty : goal.returns-then-count-eq0-clause-empty
returns-then-count-eq0-clause-empty g c = no_items c.args.self.now.batch.calls (sym c.len-count.ensures.value ∙ c.if-count-eq0.true)

pub returns-in-Ok-write_outcomes-clause-flushes : goal.returns-in-Ok-write_outcomes-clause-flushes
returns-in-Ok-write_outcomes-clause-flushes g c =
    let w = c.in-Ok-write_outcomes.ensures in
    all_flushed g.Y.DayDesk c.args.close c.len-count.result c.args.self.now.batch.calls c.args.desk.now c.take_all.new.desk c.take_all.new.outcomes.items (g.O.Outlet.held c.args.outlet.now) (g.O.Outlet.held c.expect.new.self) (g.O.Outlet.held c.write_outcomes.new.outlet)
    (g.O.Outlet.least c.args.outlet.now) (g.O.Outlet.waiting c.args.outlet.now) (g.O.Outlet.least c.expect.new.self) (g.O.Outlet.waiting c.expect.new.self) (g.O.Outlet.least c.write_outcomes.new.outlet) (g.O.Outlet.waiting c.write_outcomes.new.outlet)
    c.len-count.ensures.value c.take_all.ensures.takes c.expect.ensures.held c.in-Ok.ensures.moves w.same.0 w.same.1 (rw c.as_slice.ensures.value at w.written)

pub returns-in-Ok-write_outcomes-clause-cause : goal.returns-in-Ok-write_outcomes-clause-cause
returns-in-Ok-write_outcomes-clause-cause g c = wrote_cause (g.O.Outlet.faults c.args.outlet.now) (g.O.Outlet.faults c.expect.new.self) (g.O.Outlet.faults c.write_outcomes.new.outlet) tt c.in-Ok.ensures.cause.passed c.in-Ok-write_outcomes.ensures.cause

pub returns-in-Err-write_outcomes-clause-fails : goal.returns-in-Err-write_outcomes-clause-fails
returns-in-Err-write_outcomes-clause-fails g c =
    let w = c.in-Err-write_outcomes.ensures in
    part_flushed g.Y.DayDesk c.args.close c.len-count.result c.args.self.now.batch.calls c.args.desk.now c.take_all.new.desk c.take_all.new.outcomes.items (g.O.Outlet.held c.args.outlet.now) (g.O.Outlet.held c.expect.new.self) (g.O.Outlet.held c.write_outcomes.new.outlet)
    (g.O.Outlet.least c.args.outlet.now) (g.O.Outlet.waiting c.args.outlet.now) (g.O.Outlet.least c.expect.new.self) (g.O.Outlet.waiting c.expect.new.self) (g.O.Outlet.least c.write_outcomes.new.outlet) (g.O.Outlet.waiting c.write_outcomes.new.outlet)
    c.len-count.ensures.value c.take_all.ensures.takes c.expect.ensures.held c.in-Ok.ensures.moves w.same.0 w.same.1 _ (rw c.as_slice.ensures.value at w.written)

pub returns-in-Err-write_outcomes-clause-cause : goal.returns-in-Err-write_outcomes-clause-cause
returns-in-Err-write_outcomes-clause-cause g c =
    cause_after (g.O.Outlet.faults c.args.outlet.now) (g.O.Outlet.faults c.expect.new.self) (g.O.Outlet.faults c.write_outcomes.new.outlet) _ c.in-Ok.ensures.cause.passed (cause_of_write (g.O.Outlet.faults c.expect.new.self) (g.O.Outlet.faults c.write_outcomes.new.outlet) _ _ c.in-Err-write_outcomes.ensures.cause)

pub returns-in-Err-clause-fails : goal.returns-in-Err-clause-fails
returns-in-Err-clause-fails g c = inl (refl, c.expect.ensures.held, c.in-Err.ensures.failed.1, c.in-Err.ensures.failed.0)

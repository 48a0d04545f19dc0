-- One reply more was gathered, or the sink failed within it.
use Rattle.std.proofs.Common.{◌≡◌, length, refl, ◌∙◌, rules}
use Rattle.exchange_http.proofs.WrittenOutcomes.{all_written, front_written, more_written, none_written}
use Rattle.exchange_http.proofs.waiting.write_outcomes.Goals as goal

pub outcomes-init : goal.outcomes-init
outcomes-init g c = record {
  written = none_written c.args.close (g.O.Outlet.held c.args.outlet.now) c.args.outcomes.now;
  faults = refl;
  waiting = refl;
  least = refl;
  place = refl;
}

pub outcomes-preserved : goal.outcomes-preserved
outcomes-preserved g c =
    let i = c.outcomes.invariant in
    let w = c.in-Ok.ensures in record {
      written = more_written c.args.close c.closes_behind.result (g.O.Outlet.held c.args.outlet.now) (g.O.Outlet.held c.outcomes.outlet) (g.O.Outlet.held c.write_outcome.new.outlet) c.args.outcomes.now c.outcomes.rest.now c.in-Some.first.now c.in-Some.behind.now c.in-Some.ensures.cases.0 c.closes_behind.ensures i.written w.written;
      faults = w.cause.passed ∙ i.faults;
      waiting = w.same.0 ∙ i.waiting;
      least = w.same.1 ∙ i.least;
      place = w.place ∙ i.place;
    }

pub returns-in-Err-clause-written : goal.returns-in-Err-clause-written
returns-in-Err-clause-written g c =
    let w = c.in-Err.ensures.written in
    front_written c.args.close c.closes_behind.result (g.O.Outlet.held c.args.outlet.now) (g.O.Outlet.held c.outcomes.outlet) (g.O.Outlet.held c.write_outcome.new.outlet) c.args.outcomes.now c.outcomes.rest.now c.in-Some.first.now c.in-Some.behind.now c.in-Some.ensures.cases.0 c.closes_behind.ensures c.outcomes.invariant.written w.0 w.1 w.2

pub returns-clause-written : goal.returns-clause-written
returns-clause-written g c =
    let none : length c.outcomes.rest.now ≡ 0 = search rules in
    all_written c.args.close (g.O.Outlet.held c.args.outlet.now) (g.O.Outlet.held c.outcomes.outlet) c.args.outcomes.now c.outcomes.rest.now none c.outcomes.invariant.written

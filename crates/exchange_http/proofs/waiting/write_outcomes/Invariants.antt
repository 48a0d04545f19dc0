-- The replies so far were gathered.
use Rattle.std.proofs.Common.{◌≡◌, length}
use Rattle.exchange_http.proofs.WrittenOutcomes.{AreWritten}
use Rattle.exchange_http.proofs.waiting.write_outcomes.Given as goal

abbrev pub invariant-outcomes : goal.invariant-outcomes
invariant-outcomes g l = record {
  written : AreWritten l.close (g.O.Outlet.held l.initial.outlet) (g.O.Outlet.held l.outlet) l.fn.outcomes l.rest;
  faults : g.O.Outlet.faults l.outlet ≡ g.O.Outlet.faults l.initial.outlet;
  waiting : g.O.Outlet.waiting l.outlet ≡ g.O.Outlet.waiting l.initial.outlet;
  least : g.O.Outlet.least l.outlet ≡ g.O.Outlet.least l.initial.outlet;
  place : g.O.Outlet.place l.outlet ≡ g.O.Outlet.place l.initial.outlet;
}

abbrev pub decreases-outcomes : goal.decreases-outcomes
decreases-outcomes g l = length l.rest

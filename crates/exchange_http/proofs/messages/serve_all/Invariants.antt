-- The messages so far were taken, and nothing failed.
use Rattle.std.proofs.Common.{◌≡◌, ℕ, List, Option, false}
use Rattle.adx_io.specs.Streams.{Tape}
use Rattle.fan_out.specs.declared.lane.Lane.{Lane}
use Rattle.http_service.specs.declared.limits.TheConstants.{REQUEST_LIMIT}
use Rattle.exchange_http.specs.Going.{WayOn, kept as stand}
use Rattle.exchange_http.specs.Running.{more}
use Rattle.exchange_messages.specs.Floors.{IsFloor, IsKept}
use Rattle.exchange_http.proofs.messages.serve_all.Given as goal

abbrev pub invariant-messages : goal.invariant-messages
invariant-messages g l = record {
  sound : l.conn.failed ≡ false;
  limit : l.conn.limit ≡ REQUEST_LIMIT;
  floor : IsFloor g.Y.DayDesk l.floor;
  kept : IsKept g.Y.DayDesk l.initial.floor l.floor;
  way : (start : g.row.Y.Denot) (lanes : List (Lane g.row.L.Denot)) (tape : Option Tape) (before : Option (List ℕ))
      → WayOn g.Y.DayDesk g.L.Link g.C.Clock g.O.Outlet l.initial.floor start lanes tape (g.S.Source.tape l.initial.source) (more l.initial.conn.held 0) before l.initial.floor false (stand l.initial.keeping)
      → WayOn g.Y.DayDesk g.L.Link g.C.Clock g.O.Outlet l.initial.floor start lanes tape (g.S.Source.tape l.source) (more l.conn.held l._served) before l.floor false (stand l.keeping);
  read : g.S.Source.faults l.source ≡ g.S.Source.faults l.initial.source;
  write : g.O.Outlet.faults l.keeping.outlet ≡ g.O.Outlet.faults l.initial.keeping.outlet;
  source : g.S.Source.place l.source ≡ g.S.Source.place l.initial.source;
  place : g.O.Outlet.place l.keeping.outlet ≡ g.O.Outlet.place l.initial.keeping.outlet;
}

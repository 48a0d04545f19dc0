-- What was taken.
use Rattle.std.proofs.Common.{◌≡◌, ◌-◌, length}
use Rattle.http_connection.specs.BufferState.{Takes}
use Rattle.http_connection.proofs.line.need.Given as goal

abbrev pub invariant-takes : goal.invariant-takes
invariant-takes g l = record {
  takes : Takes l.fn.buffer l.buffer (g.S.Source.tape l.fn.source) (g.S.Source.tape l.source);
  faults : g.S.Source.faults l.source ≡ g.S.Source.faults l.fn.source;
  place : g.S.Source.place l.source ≡ g.S.Source.place l.fn.source;
}

abbrev pub decreases-takes : goal.decreases-takes
decreases-takes g l = l.buffer.room - length l.buffer.pending

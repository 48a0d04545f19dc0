-- What was taken, and the lines of the trailer in it.
use Rattle.http_connection.specs.declared.head.TheConstants.{HEAD_LIMIT}
use Rattle.http_connection.specs.declared.chunks.TheConstants.{LINE_COUNT_LIMIT}
use Rattle.std.proofs.Common.{◌≡◌, ◌≤◌, ◌-◌}
use Rattle.http_connection.specs.BufferState.{Takes}
use Rattle.http_connection.proofs.Trailers.{IsRun}
use Rattle.http_connection.proofs.chunks.read_trailer.Given as goal

abbrev pub invariant-lines : goal.invariant-lines
invariant-lines g l = record {
  takes : Takes l.fn.buffer l.buffer (g.S.Source.tape l.fn.source) (g.S.Source.tape l.source);
  run : IsRun l.at l.lines l.buffer.pending;
  few : l.lines ≤ LINE_COUNT_LIMIT;
  bounded : l.at ≤ HEAD_LIMIT;
  faults : g.S.Source.faults l.source ≡ g.S.Source.faults l.fn.source;
  place : g.S.Source.place l.source ≡ g.S.Source.place l.fn.source;
}

abbrev pub decreases-lines : goal.decreases-lines
decreases-lines g l = HEAD_LIMIT - l.at

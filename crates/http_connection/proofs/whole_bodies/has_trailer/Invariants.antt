-- The lines of the trailer so far.
use Rattle.http_connection.specs.declared.head.TheConstants.{HEAD_LIMIT}
use Rattle.http_connection.specs.declared.chunks.TheConstants.{LINE_COUNT_LIMIT}
use Rattle.std.proofs.Common.{◌≤◌, ◌-◌, length}
use Rattle.http_connection.proofs.Trailers.{IsRun}
use Rattle.http_connection.proofs.whole_bodies.has_trailer.Given as goal

abbrev pub invariant-lines : goal.invariant-lines
invariant-lines l = record {
  run : IsRun l.at l.lines l.bytes;
  few : l.lines ≤ LINE_COUNT_LIMIT;
  bounded : l.at ≤ HEAD_LIMIT;
  within : l.at ≤ length l.bytes;
}

abbrev pub decreases-lines : goal.decreases-lines
decreases-lines l = HEAD_LIMIT - l.at

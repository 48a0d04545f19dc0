-- The chunks that were joined.
use Rattle.std.proofs.Common.{◌≡◌}
use Rattle.http_connection.specs.Steps.{Advances}
use Rattle.http_connection.proofs.Joins.{IsJoining}
use Rattle.http_connection.proofs.chunks.read_chunks.Given as goal

abbrev pub invariant-chunks : goal.invariant-chunks
invariant-chunks g l = record {
  joining : IsJoining l.limit l.room l.fn.buffer l.buffer (g.S.Source.tape l.fn.source) (g.S.Source.tape l.source);
  size : l.buffer.room ≡ l.fn.buffer.room;
  advances : Advances (g.S.Source.tape l.fn.source) (g.S.Source.tape l.source);
  faults : g.S.Source.faults l.source ≡ g.S.Source.faults l.fn.source;
  place : g.S.Source.place l.source ≡ g.S.Source.place l.fn.source;
}

abbrev pub decreases-chunks : goal.decreases-chunks
decreases-chunks g l = l.room

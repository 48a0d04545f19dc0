-- The chunks that were passed over.
use Rattle.http_connection.proofs.AtHand.{IsPassing}
use Rattle.http_connection.proofs.whole_bodies.has_chunks.Given as goal

abbrev pub invariant-chunks : goal.invariant-chunks
invariant-chunks l = IsPassing l.limit l.room l.bytes l.rest

abbrev pub decreases-chunks : goal.decreases-chunks
decreases-chunks l = l.room

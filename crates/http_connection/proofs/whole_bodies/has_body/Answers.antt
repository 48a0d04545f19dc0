-- Each way to frame a body.
use Rattle.http_connection.proofs.AtHand.{absent, sized, to_end, chunked}
use Rattle.http_connection.proofs.whole_bodies.has_body.Goals as goal

pub returns-in-Absent : goal.returns-in-Absent
returns-in-Absent c = absent c.args.limit c.args.bytes.now c.args.body c.in-Absent.is

pub returns-in-Sized : goal.returns-in-Sized
returns-in-Sized c = sized c.args.limit c.in-Sized.size c.args.bytes.now c.args.body c.in-Sized.is

pub returns-in-Chunked : goal.returns-in-Chunked
returns-in-Chunked c = chunked c.args.limit c.args.bytes.now c.args.body c.has_chunks.result c.in-Chunked.is c.has_chunks.ensures

pub returns-in-ToEnd : goal.returns-in-ToEnd
returns-in-ToEnd c = to_end c.args.limit c.args.bytes.now c.args.body c.in-ToEnd.is

-- The line that ends first is a chunk line, or none.
use Rattle.std.proofs.Common.{arith, inl, inr}
use Rattle.http_connection.specs.declared.head.TheConstants.{HEAD_LIMIT}
use Rattle.http_connection.proofs.HeadWalk.{end_within}
use Rattle.http_connection.proofs.AtHand.{line_found, line_none}
use Rattle.http_connection.proofs.whole_bodies.chunk_line_in.Goals as goal

pub returns-in-Some : goal.returns-in-Some
returns-in-Some c = line_found c.args.bytes.now c.split_at.result.0.now c.split_at.result.1.now c.in-At.end c.in-Some.size c.in-At.ensures (end_within 0 HEAD_LIMIT c.in-At.end c.args.bytes.now c.in-At.ensures (omega arith)) c.split_at.ensures.front c.split_at.ensures.back c.in-Some.ensures

pub returns-in-None : goal.returns-in-None
returns-in-None c = inl (line_none c.args.bytes.now c.split_at.result.0.now c.in-At.end c.in-At.ensures c.split_at.ensures.front c.in-None.ensures)

pub returns-in-TooLong : goal.returns-in-TooLong
returns-in-TooLong c = let l = c.in-TooLong.ensures in let g = l.long in inl (inr (l.line, l.rest, l.is_line, l.behind, omega (arith, g)))

pub returns-in-Open : goal.returns-in-Open
returns-in-Open c = let o = c.in-Open.ensures in inr (o.is_line, o.short)

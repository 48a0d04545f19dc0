-- A chunk more is passed over, or what is wrong after the chunks is wrong with the body.
use Rattle.std.proofs.Common.{refl, arith}
use Rattle.http_connection.proofs.AtHand.{passing_none, passing_more, no_line, too_long, no_data, trailer_tells}
use Rattle.http_connection.proofs.whole_bodies.has_chunks.Goals as goal

pub chunks-init : goal.chunks-init
chunks-init c = passing_none c.args.limit c.args.bytes.now

pub returns-then-size-eq0 : goal.returns-then-size-eq0
returns-then-size-eq0 c =
    trailer_tells c.args.limit c.chunks.room c.in-Some.size c.args.bytes.now c.chunks.rest.now c.in-Some.behind.now c.has_trailer.result c.chunks.invariant c.in-Some.ensures c.if-size-eq0.true c.has_trailer.ensures

pub returns-then-size-room : goal.returns-then-size-room
returns-then-size-room c = too_long c.args.limit c.chunks.room c.in-Some.size c.args.bytes.now c.chunks.rest.now c.in-Some.behind.now c.chunks.invariant c.in-Some.ensures (omega (arith, c.if-size-room.true))

pub returns-in-None-behind_data : goal.returns-in-None-behind_data
returns-in-None-behind_data c =
    no_data c.args.limit c.chunks.room c.in-Some.size c.args.bytes.now c.chunks.rest.now c.in-Some.behind.now c.chunks.invariant c.in-Some.ensures (omega (arith, c.if-size-eq0.false)) (omega (arith, c.if-size-room.false)) c.in-None-behind_data.ensures

pub returns-in-None : goal.returns-in-None
returns-in-None c = no_line c.args.limit c.chunks.room c.args.bytes.now c.chunks.rest.now c.chunks.invariant c.in-None.ensures

pub chunks-preserved : goal.chunks-preserved
chunks-preserved c =
    passing_more c.args.limit c.chunks.room c.in-Some.size _ c.args.bytes.now c.chunks.rest.now c.in-Some.behind.now c.in-Some-behind_data.next.now c.chunks.invariant c.in-Some.ensures c.in-Some-behind_data.ensures (omega (arith, c.if-size-eq0.false)) (omega (arith, c.if-size-room.false)) refl

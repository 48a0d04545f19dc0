-- A chunk more is joined, or what is wrong after the chunks is wrong with the body.
use Rattle.std.proofs.Common.{refl, ◌∙◌, arith}
use Rattle.http_connection.proofs.Told.{advances_both}
use Rattle.http_connection.proofs.Joins.{line_fails, data_fails, trailer_ends, joining_more}
use Rattle.http_connection.proofs.chunks.read_chunks.Goals as goal

pub returns-then-size-eq0-clause-gives : goal.returns-then-size-eq0-clause-gives
returns-then-size-eq0-clause-gives g c =
    trailer_ends c.args.limit c.chunks.room c.in-Ok.size c.args.buffer.now c.chunks.buffer c.read_chunk_line.new.buffer c.read_trailer.new.buffer _ _ _ _ c.read_trailer.result
    c.chunks.invariant.joining c.chunks.invariant.advances c.in-Ok.ensures.gives c.in-Ok.ensures.advances c.if-size-eq0.true c.read_trailer.ensures.gives

pub returns-in-Err-read_chunk_data-clause-gives : goal.returns-in-Err-read_chunk_data-clause-gives
returns-in-Err-read_chunk_data-clause-gives g c =
    data_fails c.args.limit c.chunks.room c.in-Ok.size c.args.buffer.now c.chunks.buffer c.read_chunk_line.new.buffer c.read_chunk_data.new.buffer _ _ _ _ c.in-Err-read_chunk_data.cause
    c.chunks.invariant.joining c.chunks.invariant.advances c.in-Ok.ensures.gives c.in-Ok.ensures.advances (omega (arith, c.if-size-eq0.false)) (omega (arith, c.if-size-room.false)) c.in-Err-read_chunk_data.ensures.gives

pub returns-in-Err-clause-gives : goal.returns-in-Err-clause-gives
returns-in-Err-clause-gives g c =
    line_fails c.args.limit c.chunks.room c.args.buffer.now c.chunks.buffer c.read_chunk_line.new.buffer _ _ _ c.in-Err.fault c.chunks.invariant.joining c.chunks.invariant.advances c.in-Err.ensures.gives

pub chunks-preserved : goal.chunks-preserved
chunks-preserved g c =
    let i = c.chunks.invariant in record {
      joining = joining_more c.args.limit c.chunks.room c.in-Ok.size _ c.args.buffer.now c.chunks.buffer c.read_chunk_line.new.buffer c.read_chunk_data.new.buffer _ _ _ _
          i.joining c.in-Ok.ensures.gives c.in-Ok-read_chunk_data.ensures.gives (omega (arith, c.if-size-eq0.false)) (omega (arith, c.if-size-room.false)) refl;
      size = c.in-Ok-read_chunk_data.ensures.room ∙ c.in-Ok.ensures.room ∙ i.size;
      advances = advances_both _ _ _ i.advances (advances_both _ _ _ c.in-Ok.ensures.advances c.in-Ok-read_chunk_data.ensures.advances);
      faults = c.in-Ok-read_chunk_data.ensures.cause ∙ c.in-Ok.ensures.cause ∙ i.faults;
      place = c.in-Ok-read_chunk_data.ensures.same ∙ c.in-Ok.ensures.same ∙ i.place;
    }

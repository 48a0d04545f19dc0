-- The line that ends first is a chunk line, or none.
use Rattle.std.proofs.Common.{ap, subst, take, ◌∙◌}
use Rattle.http_connection.specs.Steps.{IsNoLine}
use Rattle.http_connection.proofs.ChunkParts.{line_bad, line_long}
use Rattle.http_connection.proofs.chunks.read_chunk_line.Goals as goal

pub returns-in-None-clause-gives : goal.returns-in-None-clause-gives
returns-in-None-clause-gives g c =
    line_bad c.args.buffer.now c.line_end.new.buffer _ _ c.in-Ok-At.end c.in-Ok-At.ensures.takes (rw c.in-Ok-At.field-0-is at c.in-Ok-At.ensures.found)
    (subst IsNoLine (c.split_at.ensures.front ∙ ap (take c.in-Ok-At.end) c.pending.ensures) c.in-None.ensures)

pub returns-in-Ok-TooLong-clause-gives : goal.returns-in-Ok-TooLong-clause-gives
returns-in-Ok-TooLong-clause-gives g c =
    line_long c.args.buffer.now c.line_end.new.buffer _ _ c.in-Ok-TooLong.ensures.takes (rw c.in-Ok-TooLong.field-0-is at c.in-Ok-TooLong.ensures.found)

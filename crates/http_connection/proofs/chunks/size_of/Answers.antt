-- What was read as a chunk line is all of the bytes, or they are none.
use Rattle.std.proofs.Common.{[], sym, ◌∙◌, append-nil}
use Rattle.httparse.specs.Grammar.{print_chunk_line}
use Rattle.http_connection.proofs.ChunkParts.{not_line}
use Rattle.http_connection.proofs.chunks.size_of.Goals as goal

pub returns-else-len-line : goal.returns-else-len-line
returns-else-len-line c =
    let at = (rw c.in-Ok-Complete.field-0-is at c.in-Ok-Complete.ensures.complete) in
    not_line c.args.line.now c.in-Ok-Complete.len c.in-Ok-Complete.size at.0 at.1 c.if-len-line.false

pub returns-in-Ok-Partial : goal.returns-in-Ok-Partial
returns-in-Ok-Partial c = λ l is e. (rw c.in-Ok-Partial.field-0-is at c.in-Ok-Partial.ensures.partial) l [] (is, e ∙ sym (append-nil (print_chunk_line l)))

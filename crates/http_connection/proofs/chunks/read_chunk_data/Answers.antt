-- The data is the front of what was taken, and two bytes come after it.
use Rattle.std.proofs.Common.{Ok, ap, sym, ◌∙◌}
use Rattle.http_connection.specs.Steps.{ends_behind}
use Rattle.http_connection.proofs.ChunkParts.{data_gives, data_bad}
use Rattle.http_connection.proofs.chunks.read_chunk_data.Goals as goal

pub returns-then-not-ends_behind-clause-gives : goal.returns-then-not-ends_behind-clause-gives
returns-then-not-ends_behind-clause-gives g c =
    data_bad c.args.size c.args.buffer.now c.need.new.buffer _ _ c.in-Ok-true.ensures.takes (c.in-Ok-true.ensures.there (ap Ok c.in-Ok-true.field-0-test))
    (ap (λ p. ends_behind p c.args.size) (sym c.pending.ensures) ∙ sym c.ends_behind.ensures ∙ c.if-not-ends_behind.true)

pub returns-else-not-ends_behind-clause-gives : goal.returns-else-not-ends_behind-clause-gives
returns-else-not-ends_behind-clause-gives g c =
    data_gives c.args.size c.args.buffer.now c.need.new.buffer c.keep.new.self c.skip.new.self _ _ c.in-Ok-true.ensures.takes (c.in-Ok-true.ensures.there (ap Ok c.in-Ok-true.field-0-test))
    (ap (λ p. ends_behind p c.args.size) (sym c.pending.ensures) ∙ sym c.ends_behind.ensures ∙ c.if-not-ends_behind.false) c.keep.ensures c.skip.ensures

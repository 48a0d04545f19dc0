-- The bytes that were copied are the next ones.
use Rattle.std.proofs.Common.{◌≡◌, ap, ◌∙◌, ◌+◌, subst, arith, min, length, take, drop}
use Rattle.adx_io.specs.Streams.{Gives}
use Rattle.adx_io.specs.Fakes.{SourceState}
use Rattle.adx_io.proofs.Moved.{Gives-next, nothing_left, moved-none}
use Rattle.adx_io.proofs.memory_source.MemorySourceSource.take.Goals as goal

pub returns-clause-moved : goal.returns-clause-moved
returns-clause-moved c =
    let bytes = c.self.inside.bytes.items in
    let at = c.self.inside.at in
    let left : c.split_at.result.1.now ≡ drop at bytes = c.split_at.ensures.back ∙ ap (drop at) c.deref-2.ensures.value in
    let moves = Gives-next at c.min-count.result bytes c.copy_front.new.out (omega arith) (c.copy_front.ensures.copied ∙ ap (take c.min-count.result) left)
    (λ none room. nothing_left (drop at bytes) (moved-none c.self.inside.step (length c.copy_front.new.out) (length c.args.out.now) c.moved-wanted.result (length (drop at bytes)) c.min-count.result (c.min-count.ensures ∙ ap (λ xs. min c.moved-wanted.result (length xs)) left) c.moved-wanted.ensures c.copy_front.auto.out none room)) in
    subst (λ (s : SourceState). Gives s.tape (record { taken = take (at + c.min-count.result) bytes; left = drop (at + c.min-count.result) bytes }) c.copy_front.new.out c.min-count.result) c.self.view_is moves

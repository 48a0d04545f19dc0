-- The bytes that were copied are the next ones of the reply.
use Rattle.std.proofs.Common.{◌≡◌, ap, ◌∙◌, ◌+◌, subst, arith, length, take, drop}
use Rattle.adx_io.specs.Streams.{Gives}
use Rattle.adx_io.proofs.Moved.{Gives-next, nothing_left}
use Rattle.adx_links.specs.Links.{Connection}
use Rattle.two_books.proofs.replay.Answering.give.Goals as goal

pub returns-clause-gives : goal.returns-clause-gives
returns-clause-gives c =
    let bytes = c.self.inside.reply.items in
    let at = c.self.inside.given in
    let left : c.split_at.result.1.now ≡ drop at bytes = c.split_at.ensures.back ∙ ap (drop at) c.deref.ensures.value in
    let moves = Gives-next at c.min-count.result bytes c.copy_front.new.out (omega arith) (c.copy_front.ensures.copied ∙ ap (take c.min-count.result) left)
    (λ none room. nothing_left (drop at bytes) (omega (arith, none, room, c.min-count.ensures, c.copy_front.auto.out, ap length left))) in
    subst (λ (s : Connection). Gives s.tape (record { taken = take (at + c.min-count.result) bytes; left = drop (at + c.min-count.result) bytes }) c.copy_front.new.out c.min-count.result) c.self.view_is moves

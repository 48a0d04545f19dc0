-- The bytes that were copied are the next ones of the answer.
use Rattle.std.proofs.Common.{ap, ◌∙◌, refl, arith, length, take, drop}
use Rattle.adx_io.proofs.Moved.{Gives-next, nothing_left}
use Rattle.adx_commands.proofs.link_calls.RosterLinkLink.take.Goals as goal

pub returns-clause-takes : goal.returns-clause-takes
returns-clause-takes c =
    let bytes = c.args.self.now.answer.now in
    let at = c.args.self.now.given in
    let moves = Gives-next at c.min-count.result bytes c.copy_front.new.out (omega arith) (c.copy_front.ensures.copied ∙ ap (take c.min-count.result) c.split_at.ensures.back)
    (λ none room. nothing_left (drop at bytes) (omega (arith, none, room, c.min-count.ensures, c.copy_front.auto.out, ap length c.split_at.ensures.back))) in
    record { takes = record { moved = moves; put_same = refl; nearer = refl }; same = refl }

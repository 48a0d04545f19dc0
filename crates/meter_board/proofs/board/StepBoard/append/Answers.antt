use Rattle.std.proofs.Common.{ap, sym, ◌∙◌, length}
use Rattle.meter_board.proofs.Beginnings.{entries_of, entries_fold}
use Rattle.meter_board.proofs.board.StepBoard.append.Goals as goal

pub put_behind-found-requires-clause-at : goal.put_behind-found-requires-clause-at
put_behind-found-requires-clause-at g c =
    let front = c.args.self.now.front in
    ap (λ s. length s.log) c.again-seen.ensures ∙ (sym (entries_of front.seen.log) ∙ sym (ap (λ m. m.entries) front.folded))

pub put_behind-found-requires-clause-next : goal.put_behind-found-requires-clause-next
put_behind-found-requires-clause-next g c =
    let front = c.args.self.now.front in
    sym (ap (λ m. m.entries) c.folded-meters.ensures.meters ∙ entries_fold front.meters c.args.steps.now)

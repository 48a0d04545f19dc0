use Rattle.std.proofs.Common.{sym, ap, ◌∙◌}
use Rattle.meter_board.proofs.Beginnings.{whole_shown}
use Rattle.meter_board.proofs.board.StepBoard.publish.Goals as goal

pub returns-then-published-self-clause-published : goal.returns-then-published-self-clause-published
returns-then-published-self-clause-published g c =
    let board = c.args.self.now in
    let shown = board.writer.desk.shown.value in
    whole_shown shown.seen.log board.front.seen.log shown.meters board.front.meters shown.folded board.front.folded
    (sym (ap (λ s. s.meters.entries) c.published.ensures) ∙ c.if-published-self.true) board.begins

use Rattle.outbox.proofs.Changes.{forgotten_part}
use Rattle.outbox.proofs.rows.Rows.make.Goals as goal

pub returns-in-Err-clause-forgotten : goal.returns-in-Err-clause-forgotten
returns-in-Err-clause-forgotten c =
    forgotten_part c.args.first c.args.self.now c.make_all.new.self c.forget.new.self c.make_all.ensures.part c.forget.ensures

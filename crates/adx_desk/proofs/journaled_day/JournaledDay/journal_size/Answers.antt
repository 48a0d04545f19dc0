use Rattle.std.proofs.Common.{ap, arith}
use Rattle.adx_desk.specs.Journaled.{JournaledState}
use Rattle.adx_desk.proofs.journaled_day.JournaledDay.journal_size.Goals as goal

pub returns-clause-size : goal.returns-clause-size
returns-clause-size c = omega (arith, c.size.ensures, c.self.invariant.room, ap (λ (t : JournaledState). t.desk.journal.gate) c.self.view_is)

pub returns-clause-bound : goal.returns-clause-bound
returns-clause-bound c = omega (arith, c.size.ensures, c.self.invariant.room)

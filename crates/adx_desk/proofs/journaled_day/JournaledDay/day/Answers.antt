use Rattle.adx_desk.proofs.Inside.{known}
use Rattle.adx_desk.proofs.journaled_day.JournaledDay.day.Goals as goal

pub returns-clause-size : goal.returns-clause-size
returns-clause-size c =
    (known c.self.inside.day c.self.inside.digest c.self.inside.journal c.self.inside.faults c.self.inside.without_end c.args.self.now c.self.invariant c.self.view_is).short

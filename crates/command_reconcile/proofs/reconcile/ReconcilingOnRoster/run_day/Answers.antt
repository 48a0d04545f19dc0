-- The run of the bidder with that name.
use Rattle.std.proofs.Common.{refl}
use Rattle.command_reconcile.proofs.reconcile.ReconcilingOnRoster.run_day.Goals as goal

pub returns-clause-ran : goal.returns-clause-ran
returns-clause-ran g c =
    let ran = c.open_day.ensures.ran in ((c.args.self.now.name.now, ran.0), (refl, ran.1), ran.2)

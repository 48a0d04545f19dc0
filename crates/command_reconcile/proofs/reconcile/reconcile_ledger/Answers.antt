-- The run with the name that it was given.
use Rattle.command_reconcile.proofs.Courses.{ran_so}
use Rattle.command_reconcile.proofs.reconcile.reconcile_ledger.Goals as goal

pub returns-clause-runs : goal.returns-clause-runs
returns-clause-runs g c =
    let ran = c.run_on_roster.ensures.runs in
    ran_so g.S.Source g.K.Sink g.D.Disk ran.course c.args.name.now c.args.disk.now c.run_on_roster.new.disk c.args.source.now c.run_on_roster.new.source c.args.sink.now c.run_on_roster.new.sink c.run_on_roster.result ran.leaves ran.runs

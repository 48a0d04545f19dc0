-- The run over a roster's day.
use Rattle.command_day.proofs.Ends.{day_runs}
use Rattle.command_day.proofs.day.run_day.Goals as goal

pub returns-clause-runs : goal.returns-clause-runs
returns-clause-runs g c =
    day_runs g.S.Source g.K.Sink g.D.Disk c.args.source.now c.run_on_roster.new.source c.args.sink.now c.run_on_roster.new.sink c.args.disk.now c.run_on_roster.new.disk c.run_on_roster.result
    c.run_on_roster.ensures.runs

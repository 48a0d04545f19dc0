-- The run by its first line.
use Rattle.std.proofs.Common.{rules}
use Rattle.history_runs.proofs.RostersRuns.{runs_on}
use Rattle.history_runs.proofs.on_roster.run_on_roster.Goals as goal

pub returns-clause-runs : goal.returns-clause-runs
returns-clause-runs g c =
    runs_on g.S.Source g.K.Sink g.D.Disk (λ e. e.command.now) (λ e. e.disk.now) g.C.OnRoster.leaves g.C.OnRoster.meaning _ c.run_led.new.led c.args.command.now c.args.source.now c.run_led.new.source c.args.sink.now c.run_led.new.sink c.args.disk.now _ c.run_led.result
    (search rules) (search rules) (search rules) c.run_led.ensures.runs.0 c.run_led.ensures.runs.1 c.run_led.ensures.runs.2

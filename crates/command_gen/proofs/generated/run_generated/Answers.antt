-- The disk's count of faults is that of the day.
use Rattle.command_gen.proofs.Serving.{day_risen, day_stayed}
use Rattle.command_gen.proofs.generated.run_generated.Goals as goal

pub returns-in-Ok-clause-disk_fault : goal.returns-in-Ok-clause-disk_fault
returns-in-Ok-clause-disk_fault g c = λ is.
    day_risen g.D.Disk c.args.generator.seed c.args.generator.asks (g.K.Sink.held c.args.sink.now) (g.K.Sink.held c.serve_roster.new.sink) c.args.disk.now c.serve_roster.new.disk c.serve_roster.result c.serve_roster.ensures.runs is

pub returns-in-Ok-clause-disk_passed : goal.returns-in-Ok-clause-disk_passed
returns-in-Ok-clause-disk_passed g c = λ other.
    day_stayed g.D.Disk c.args.generator.seed c.args.generator.asks (g.K.Sink.held c.args.sink.now) (g.K.Sink.held c.serve_roster.new.sink) c.args.disk.now c.serve_roster.new.disk c.serve_roster.result c.serve_roster.ensures.runs other

-- The day's calls were taken, and its table was put; or they ended early.
use Rattle.std.proofs.Common.{◌∙◌}
use Rattle.command_gen.proofs.Serving.{calls_faulted, calls_refused, calls_told}
use Rattle.command_gen.proofs.Taking.{serves_terms}
use Rattle.command_gen.proofs.generated.run_calls.Goals as goal

pub tell_table-requires : goal.tell_table-requires
tell_table-requires g c =
    let taken = c.in-Ok.ensures.takes in
    record { terms = serves_terms g.D.Disk.faults g.D.Disk.may_leave g.D.Disk.moment g.D.Disk.left_since c.args.desk.now c.take_day.new.desk taken.told taken.serves ∙ c.requires.terms }

pub returns-in-Ok-clause-runs : goal.returns-in-Ok-clause-runs
returns-in-Ok-clause-runs g c =
    calls_told g.D.Disk.faults g.D.Disk.may_leave g.D.Disk.moment g.D.Disk.left_since c.args.desk.now c.take_day.new.desk c.args.roster.now c.args.generator.seed c.args.generator.asks c.requires.terms
    (g.K.Sink.held c.args.sink.now) (g.K.Sink.held c.tell_table.new.sink) c.tell_table.result c.in-Ok.ensures.takes c.tell_table.ensures.tells

pub returns-in-Err-DiskFault-clause-runs : goal.returns-in-Err-DiskFault-clause-runs
returns-in-Err-DiskFault-clause-runs g c =
    calls_faulted g.D.Disk.faults g.D.Disk.may_leave g.D.Disk.moment g.D.Disk.left_since c.args.desk.now c.take_day.new.desk c.args.roster.now c.args.generator.seed c.args.generator.asks c.requires.terms
    (g.K.Sink.held c.args.sink.now) (rw c.in-Err-DiskFault.field-0-is at c.in-Err-DiskFault.ensures.takes)

pub returns-in-Err-OutOfMemory-clause-runs : goal.returns-in-Err-OutOfMemory-clause-runs
returns-in-Err-OutOfMemory-clause-runs g c =
    calls_refused g.D.Disk.faults g.D.Disk.may_leave g.D.Disk.moment g.D.Disk.left_since c.args.desk.now c.take_day.new.desk c.args.roster.now c.args.generator.seed c.args.generator.asks c.requires.terms
    (g.K.Sink.held c.args.sink.now) (rw c.in-Err-OutOfMemory.field-0-is at c.in-Err-OutOfMemory.ensures.takes)

-- The line of the numbers is printed.
use Rattle.std.proofs.Common.{refl}
use Rattle.ratio_law.specs.Line.{ratio_line}
use Rattle.command_close.specs.Guarantees.{IsGuarantee}
use Rattle.history_runs.proofs.Putting.{printed_by}
use Rattle.command_close.proofs.measuring.put_guarantee.Goals as goal

pub returns-in-Ok-clause-printed : goal.returns-in-Ok-clause-printed
returns-in-Ok-clause-printed g c =
    let numbers = c.in-Ok.numbers in
    printed_by IsGuarantee c.args.roster.now c.args.entries.now (g.K.Sink.held c.args.talk.now.sink.now) (g.K.Sink.held c.put_line.new.talk.sink.now) (ratio_line numbers) c.put_line.result
    (record { numbers = numbers; are_its = c.in-Ok.ensures; spelled = refl }) c.put_line.ensures.puts

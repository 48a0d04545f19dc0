-- A front of the output was put.
use Rattle.std.proofs.Common.{ℕ, List, subst}
use Rattle.command_runs.specs.Meanings.{TookPrefix}
use Rattle.command_runs.proofs.Ran.{front_taken}
use Rattle.command_archive.proofs.list.put_end.Goals as goal

pub returns-in-Err-clause-puts : goal.returns-in-Err-clause-puts
returns-in-Err-clause-puts g c =
    subst (λ (b : List ℕ). TookPrefix (g.K.Sink.held c.args.sink.now) (g.K.Sink.held c.put_all.new.sink) b) c.as_bytes.ensures.value
    (front_taken (g.K.Sink.held c.args.sink.now) (g.K.Sink.held c.put_all.new.sink) c.as_bytes.result.now c.in-Err.ensures.taken)

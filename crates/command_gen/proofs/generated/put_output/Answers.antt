-- A prefix of the output was taken.
use Rattle.std.proofs.Common.{List, ℕ, subst}
use Rattle.command_runs.specs.Meanings.{TookPrefix}
use Rattle.command_runs.proofs.Ran.{front_taken}
use Rattle.command_gen.proofs.generated.put_output.Goals as goal

pub returns-in-Err-clause-puts : goal.returns-in-Err-clause-puts
returns-in-Err-clause-puts g c =
    let held = g.K.Sink.held c.args.sink.now in
    let held_now = g.K.Sink.held c.put_all.new.sink in
    subst (λ (b : List ℕ). TookPrefix held held_now b) c.as_bytes.ensures.value (front_taken held held_now c.as_bytes.result.now c.in-Err.ensures.taken)

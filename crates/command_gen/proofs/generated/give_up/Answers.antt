-- The line that says why was put, or a prefix of it; or it has none.
use Rattle.std.proofs.Common.{◌≡◌, ◌∙◌, ◌++◌, ℕ, List, Ok, Err, ap, subst, sym}
use Rattle.command_runs.specs.declared.outcome.Outcome.{Outcome}
use Rattle.history_runs.specs.Unopened.{unopened_end}
use Rattle.history_runs.specs.Output.{unopened_line}
use Rattle.adx_io.specs.Streams.{Took}
use Rattle.command_gen.specs.Taking.{PutsOutput}
use Rattle.command_gen.proofs.Putting.{untaken_failed, untaken_refused}
use Rattle.command_gen.proofs.generated.give_up.Goals as goal

pub returns-in-Ok-put_output-clause-ends : goal.returns-in-Ok-put_output-clause-ends
returns-in-Ok-put_output-clause-ends g c =
    let why = c.args.fault.now in
    let is : unopened_end why ≡ Ok Outcome.NoHistory = sym c.unopened_outcome.ensures ∙ c.in-Ok-NoHistory.is ∙ ap Ok c.in-Ok-NoHistory.field-0-is in
    let line : c.as_str.result.now ≡ unopened_line why = c.as_str.ensures.value ∙ c.in-Ok.ensures ∙ ap (λ (b : List ℕ). b ++ unopened_line why) c.new-out.ensures.bytes in
    (is, subst (Took (g.K.Sink.held c.args.sink.now) (g.K.Sink.held c.put_output.new.sink)) line c.in-Ok-put_output.ensures.puts)

pub returns-in-Ok-clause-ends : goal.returns-in-Ok-clause-ends
returns-in-Ok-clause-ends g c =
    let why = c.args.fault.now in
    let is : unopened_end why ≡ Ok Outcome.NoHistory = sym c.unopened_outcome.ensures ∙ c.in-Ok-NoHistory.is ∙ ap Ok c.in-Ok-NoHistory.field-0-is in
    let line : c.as_str.result.now ≡ unopened_line why = c.as_str.ensures.value ∙ c.in-Ok.ensures ∙ ap (λ (b : List ℕ). b ++ unopened_line why) c.new-out.ensures.bytes in
    untaken_failed why (g.K.Sink.held c.args.sink.now) (g.K.Sink.held c.put_output.new.sink) c.in-Err-put_output.stop is
    (subst (λ (b : List ℕ). PutsOutput (g.K.Sink.held c.args.sink.now) (g.K.Sink.held c.put_output.new.sink) b (Err c.in-Err-put_output.stop)) line c.in-Err-put_output.ensures.puts)

pub returns-in-Ok-NoHistory-clause-ends : goal.returns-in-Ok-NoHistory-clause-ends
returns-in-Ok-NoHistory-clause-ends g c =
    let is : unopened_end c.args.fault.now ≡ Ok Outcome.NoHistory = sym c.unopened_outcome.ensures ∙ c.in-Ok-NoHistory.is ∙ ap Ok c.in-Ok-NoHistory.field-0-is in
    untaken_refused c.args.fault.now (g.K.Sink.held c.args.sink.now) is

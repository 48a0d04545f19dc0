-- The line that says why was put.
use Rattle.std.proofs.Common.{◌≡◌, ◌∙◌, ◌++◌, ap, inl, sym, subst, Ok, string_bytes}
use Rattle.command_runs.specs.Meanings.{PutsEnd}
use Rattle.command_runs.specs.declared.outcome.Outcome.{Outcome}
use Rattle.history_runs.specs.Unopened.{unopened_end}
use Rattle.history_runs.specs.Output.{unopened_line}
use Rattle.history_runs.proofs.Unopened.{unopened_put}
use Rattle.history_runs.proofs.opening.tell_unopened.Goals as goal

pub returns-in-Ok-clause-puts : goal.returns-in-Ok-clause-puts
returns-in-Ok-clause-puts g c =
    let why = c.args.fault.now in
    let held = g.K.Sink.held c.args.talk.now.sink.now in
    let held_now = g.K.Sink.held c.put_end.new.talk.sink.now in
    let is : unopened_end why ≡ Ok Outcome.NoHistory = sym c.unopened_outcome.ensures ∙ c.in-Ok-NoHistory.is ∙ ap Ok c.in-Ok-NoHistory.field-0-is in
    let line : string_bytes c.push_unopened.new.out ≡ unopened_line why = c.in-Ok.ensures ∙ ap (λ o. o ++ unopened_line why) c.requires.unwritten in
    unopened_put why held held_now c.put_end.result is (inl (subst (λ b. PutsEnd Outcome.NoHistory held held_now b c.put_end.result) line c.put_end.ensures.puts))

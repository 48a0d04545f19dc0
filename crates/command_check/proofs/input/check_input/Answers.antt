-- The run of a judge, told by its status.
use Rattle.std.proofs.Common.{sym, ap, ◌∙◌}
use Rattle.command_runs.specs.Statuses.{status_by}
use Rattle.command_check.proofs.Ended.{accepted_input, never_nine, never_six, never_two, read_failed, write_failed}
use Rattle.command_check.proofs.OneAnswer.{one_answer}
use Rattle.command_check.proofs.input.check_input.Goals as goal

pub returns-clause-checks : goal.returns-clause-checks
returns-clause-checks g c =
    let runs = c.run_document-ended.ensures.runs in
    record { ended = c.run_document-ended.result; told = c.status_of.ensures; judged = runs.1; wrote = runs.2.wrote }

pub returns-clause-accepted : goal.returns-clause-accepted
returns-clause-accepted g c = λ is.
    let runs = c.run_document-ended.ensures.runs in
    accepted_input (g.S.Source.tape c.args.source.now) (g.S.Source.tape c.run_document-ended.new.source) (g.K.Sink.held c.args.sink.now) (g.K.Sink.held c.run_document-ended.new.sink) c.status_of.result
    (record { ended = c.run_document-ended.result; told = c.status_of.ensures; judged = runs.1; wrote = runs.2.wrote }) is

pub returns-clause-read_fault : goal.returns-clause-read_fault
returns-clause-read_fault g c = λ is. c.run_document-ended.ensures.runs.2.causes.read_fault (read_failed c.run_document-ended.result (sym c.status_of.ensures ∙ is))

pub returns-clause-read_passed : goal.returns-clause-read_passed
returns-clause-read_passed g c = λ other. c.run_document-ended.ensures.runs.2.causes.read_same (λ is. other (c.status_of.ensures ∙ ap status_by is))

pub returns-clause-write_fault : goal.returns-clause-write_fault
returns-clause-write_fault g c = λ is. c.run_document-ended.ensures.runs.2.causes.write_fault (write_failed c.run_document-ended.result (sym c.status_of.ensures ∙ is))

pub returns-clause-write_passed : goal.returns-clause-write_passed
returns-clause-write_passed g c = λ other. c.run_document-ended.ensures.runs.2.causes.write_same (λ is. other (c.status_of.ensures ∙ ap status_by is))

pub returns-clause-one_answer : goal.returns-clause-one_answer
returns-clause-one_answer g c = one_answer

pub returns-clause-other : goal.returns-clause-other
returns-clause-other g c = (
  λ is. never_two c.run_document-ended.result (sym c.status_of.ensures ∙ is),
  λ is. never_six c.run_document-ended.result c.run_document-ended.ensures.runs.1 (sym c.status_of.ensures ∙ is),
  λ is. never_nine c.run_document-ended.result c.run_document-ended.ensures.runs.1 (sym c.status_of.ensures ∙ is),
)

pub returns-clause-source_later : goal.returns-clause-source_later
returns-clause-source_later g c = c.run_document-ended.ensures.runs.2.causes.read_later

pub returns-clause-sink_later : goal.returns-clause-sink_later
returns-clause-sink_later g c = c.run_document-ended.ensures.runs.2.causes.write_later

pub returns-clause-source_same : goal.returns-clause-source_same
returns-clause-source_same g c = c.run_document-ended.ensures.runs.2.source_same

pub returns-clause-sink_same : goal.returns-clause-sink_same
returns-clause-sink_same g c = c.run_document-ended.ensures.runs.2.sink_same

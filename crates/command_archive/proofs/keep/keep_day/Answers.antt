-- The run of the judge that keeps, told by its status.
use Rattle.std.proofs.Common.{sym, ap, subst, rules, ◌∙◌, ◌≡◌}
use Rattle.adx_io.specs.Streams.{Rises}
use Rattle.command_runs.specs.Statuses.{status_by}
use Rattle.command_check.proofs.Ended.{never_two, read_failed, write_failed}
use Rattle.command_archive.specs.Keeps.{LeavesKept}
use Rattle.command_archive.proofs.Statuses.{kept_fault, kept_other, kept_passed}
use Rattle.command_archive.proofs.keep.keep_day.Goals as goal

pub returns-clause-runs : goal.returns-clause-runs
returns-clause-runs g c =
    let runs = c.run_document-ended.ensures.runs in
    let same : c.keeper-1.given.0 ≡ c.run_document-ended.new.judge.keeper.now = c.keeper-1.given.1 (search rules) in
    record {
      course = runs.0;
      ended = c.run_document-ended.result;
      told = c.status_of.ensures;
      left = subst (λ p. LeavesKept g.P.Keeper c.args.keeper.now p runs.0 c.run_document-ended.result) (sym same) runs.1;
      runs = runs.2;
    }

pub returns-clause-read_fault : goal.returns-clause-read_fault
returns-clause-read_fault g c = λ is. c.run_document-ended.ensures.runs.2.causes.read_fault (read_failed c.run_document-ended.result (sym c.status_of.ensures ∙ is))

pub returns-clause-read_passed : goal.returns-clause-read_passed
returns-clause-read_passed g c = λ other. c.run_document-ended.ensures.runs.2.causes.read_same (λ is. other (c.status_of.ensures ∙ ap status_by is))

pub returns-clause-write_fault : goal.returns-clause-write_fault
returns-clause-write_fault g c = λ is. c.run_document-ended.ensures.runs.2.causes.write_fault (write_failed c.run_document-ended.result (sym c.status_of.ensures ∙ is))

pub returns-clause-write_passed : goal.returns-clause-write_passed
returns-clause-write_passed g c = λ other. c.run_document-ended.ensures.runs.2.causes.write_same (λ is. other (c.status_of.ensures ∙ ap status_by is))

pub returns-clause-source_later : goal.returns-clause-source_later
returns-clause-source_later g c = c.run_document-ended.ensures.runs.2.causes.read_later

pub returns-clause-sink_later : goal.returns-clause-sink_later
returns-clause-sink_later g c = c.run_document-ended.ensures.runs.2.causes.write_later

pub returns-clause-source_same : goal.returns-clause-source_same
returns-clause-source_same g c = c.run_document-ended.ensures.runs.2.source_same

pub returns-clause-sink_same : goal.returns-clause-sink_same
returns-clause-sink_same g c = c.run_document-ended.ensures.runs.2.sink_same

pub returns-clause-keeper_fault : goal.returns-clause-keeper_fault
returns-clause-keeper_fault g c = λ is.
    let runs = c.run_document-ended.ensures.runs in
    let same : c.keeper-1.given.0 ≡ c.run_document-ended.new.judge.keeper.now = c.keeper-1.given.1 (search rules) in
    subst (λ p. Rises (g.P.Keeper.faults c.args.keeper.now) (g.P.Keeper.faults p)) (sym same)
    (kept_fault g.P.Keeper c.args.keeper.now c.run_document-ended.new.judge.keeper.now c.run_document-ended.result runs.0 runs.1 (sym c.status_of.ensures ∙ is))

pub returns-clause-keeper_passed : goal.returns-clause-keeper_passed
returns-clause-keeper_passed g c = λ never unput.
    let runs = c.run_document-ended.ensures.runs in
    let same : c.keeper-1.given.0 ≡ c.run_document-ended.new.judge.keeper.now = c.keeper-1.given.1 (search rules) in
    ap g.P.Keeper.faults same
    ∙ kept_passed g.P.Keeper c.args.keeper.now c.run_document-ended.new.judge.keeper.now c.run_document-ended.result runs.0 runs.1 (λ e. never (c.status_of.ensures ∙ e)) (λ e. unput (c.status_of.ensures ∙ e))

pub returns-clause-other : goal.returns-clause-other
returns-clause-other g c =
    let runs = c.run_document-ended.ensures.runs in (
      λ is. never_two c.run_document-ended.result (sym c.status_of.ensures ∙ is),
      λ is. kept_other g.P.Keeper c.args.keeper.now c.run_document-ended.new.judge.keeper.now c.run_document-ended.result runs.0 runs.1 (sym c.status_of.ensures ∙ is),
    )

-- The run, told by its status.
use Rattle.std.proofs.Common.{sym, ap, ◌∙◌}
use Rattle.command_check.proofs.Ended.{never_two, write_failed}
use Rattle.command_runs.specs.Statuses.{status_by}
use Rattle.command_archive.proofs.Statuses.{listed_fault, listed_other, listed_passed}
use Rattle.command_archive.proofs.list.list_days_of.Goals as goal

pub returns-clause-lists : goal.returns-clause-lists
returns-clause-lists g c =
    let lists = c.put_days-ended.ensures.lists in
    record { listing = lists.0; ended = c.put_days-ended.result; told = c.status_of.ensures; left = lists.1; puts = lists.2 }

pub returns-clause-keeper_fault : goal.returns-clause-keeper_fault
returns-clause-keeper_fault g c = λ is.
    let lists = c.put_days-ended.ensures.lists in
    listed_fault g.P.Keeper c.args.keeper.now c.put_days-ended.new.keeper c.put_days-ended.result c.args.query.now lists.0 lists.1 (sym c.status_of.ensures ∙ is)

pub returns-clause-keeper_passed : goal.returns-clause-keeper_passed
returns-clause-keeper_passed g c = λ never unput.
    let lists = c.put_days-ended.ensures.lists in
    listed_passed g.P.Keeper c.args.keeper.now c.put_days-ended.new.keeper c.put_days-ended.result c.args.query.now lists.0 lists.1 (λ e. never (c.status_of.ensures ∙ e)) (λ e. unput (c.status_of.ensures ∙ e))

pub returns-clause-write_fault : goal.returns-clause-write_fault
returns-clause-write_fault g c = λ is. c.put_days-ended.ensures.write_fault (write_failed c.put_days-ended.result (sym c.status_of.ensures ∙ is))

pub returns-clause-write_passed : goal.returns-clause-write_passed
returns-clause-write_passed g c = λ other. c.put_days-ended.ensures.write_passed (λ is. other (c.status_of.ensures ∙ ap status_by is))

pub returns-clause-other : goal.returns-clause-other
returns-clause-other g c =
    let lists = c.put_days-ended.ensures.lists in
    let other = listed_other g.P.Keeper c.args.keeper.now c.put_days-ended.new.keeper c.put_days-ended.result c.args.query.now lists.0 lists.1 in (
      λ is. never_two c.put_days-ended.result (sym c.status_of.ensures ∙ is),
      λ is. other.0 (sym c.status_of.ensures ∙ is),
      λ is. other.1 (sym c.status_of.ensures ∙ is),
    )

-- The disk's count is that of the day that ran.
use Rattle.std.proofs.Common.{arith, refl, ◌∙◌, Some, ap}
use Rattle.adx_commands.proofs.Commands.{reconciled}
use Rattle.adx_commands.proofs.Outcomes.{caused, caused_generated, counted_bidder, counted_conn, counted_day, counted_generated, counted_ledger}
use Rattle.adx_commands.proofs.command.run.Goals as goal

pub returns-in-Some-Day-clause-disk_causes : goal.returns-in-Some-Day-clause-disk_causes
returns-in-Some-Day-clause-disk_causes g c =
    let ran = c.run_day-ended.ensures.runs in
    counted_day g.D.Disk ran.course c.args.disk.now c.run_day-ended.new.disk c.run_day-ended.result c.status_of_outcome.result ran.ends ran.on_disk c.status_of_outcome.ensures

pub returns-in-Some-Connection-clause-disk_causes : goal.returns-in-Some-Connection-clause-disk_causes
returns-in-Some-Connection-clause-disk_causes g c =
    let ran = c.run_conn-ended.ensures.runs in
    counted_conn g.D.Disk ran.course c.args.disk.now c.run_conn-ended.new.disk c.run_conn-ended.result c.status_of_outcome-in-Some-Connection.result ran.leaves c.status_of_outcome-in-Some-Connection.ensures

pub returns-in-Some-Generate-clause-causes : goal.returns-in-Some-Generate-clause-causes
returns-in-Some-Generate-clause-causes g c =
    let ended = c.run_generated-ended in
    caused_generated g.D.Disk _ _ _ _ _ _ (g.S.Source.faults c.args.source.now) (g.K.Sink.faults c.args.sink.now) (g.K.Sink.faults ended.new.sink) ended.result c.status_of_outcome-in-Some-Generate.result
    ended.ensures.runs ended.ensures.write_fault ended.ensures.write_passed ended.ensures.write_later c.status_of_outcome-in-Some-Generate.ensures

pub returns-in-Some-Generate-clause-disk_causes : goal.returns-in-Some-Generate-clause-disk_causes
returns-in-Some-Generate-clause-disk_causes g c =
    counted_generated g.D.Disk _ _ _ _ _ _ c.run_generated-ended.result c.status_of_outcome-in-Some-Generate.result c.run_generated-ended.ensures.runs c.status_of_outcome-in-Some-Generate.ensures

pub returns-in-Some-Check-clause-disk_causes : goal.returns-in-Some-Check-clause-disk_causes
returns-in-Some-Check-clause-disk_causes g c = record {
  disk_fault = λ is. absurd (c.check_input.ensures.other.1 is);
  disk_passed = λ either. refl;
  disk_later = omega arith;
}

pub returns-in-Some-ArchivePut-clause-disk_causes : goal.returns-in-Some-ArchivePut-clause-disk_causes
returns-in-Some-ArchivePut-clause-disk_causes g c = record {
  disk_fault = λ is. absurd (c.keep_day.ensures.other.1 is);
  disk_passed = λ either. refl;
  disk_later = omega arith;
}

pub returns-in-Some-ArchiveList-clause-disk_causes : goal.returns-in-Some-ArchiveList-clause-disk_causes
returns-in-Some-ArchiveList-clause-disk_causes g c = record {
  disk_fault = λ is. absurd (c.list_days_of.ensures.other.2 is);
  disk_passed = λ either. refl;
  disk_later = omega arith;
}

pub returns-in-Some-Bidder-clause-disk_causes : goal.returns-in-Some-Bidder-clause-disk_causes
returns-in-Some-Bidder-clause-disk_causes g c =
    let ran = c.run_bidder-ended.ensures.runs in
    counted_bidder (g.D.Disk.faults c.args.disk.now) ran.course c.run_bidder-ended.result c.status_of_outcome-in-Some-Bidder.result ran.ends c.status_of_outcome-in-Some-Bidder.ensures

pub returns-in-Some-Reconcile-clause-does : goal.returns-in-Some-Reconcile-clause-does
returns-in-Some-Reconcile-clause-does g c =
    reconciled _ _ _ _ _ _ _ _ _ _ c.reconcile_ledger-ended.result (c.in-Some-Reconcile.is ∙ ap Some c.in-Some-Reconcile.field-0-is) c.as_str.ensures.value refl
    c.status_of_outcome-in-Some-Reconcile.ensures c.reconcile_ledger-ended.ensures.runs

pub returns-in-Some-Reconcile-clause-causes : goal.returns-in-Some-Reconcile-clause-causes
returns-in-Some-Reconcile-clause-causes g c =
    caused (g.S.Source.faults c.args.source.now) (g.S.Source.faults c.reconcile_ledger-ended.new.source) (g.K.Sink.faults c.args.sink.now) (g.K.Sink.faults c.reconcile_ledger-ended.new.sink)
    c.reconcile_ledger-ended.result c.status_of_outcome-in-Some-Reconcile.result c.reconcile_ledger-ended.ensures.runs.runs.causes c.status_of_outcome-in-Some-Reconcile.ensures

pub returns-in-Some-Reconcile-clause-disk_causes : goal.returns-in-Some-Reconcile-clause-disk_causes
returns-in-Some-Reconcile-clause-disk_causes g c =
    let ran = c.reconcile_ledger-ended.ensures.runs in
    counted_ledger g.D.Disk ran.course c.args.disk.now c.reconcile_ledger-ended.new.disk c.reconcile_ledger-ended.result c.status_of_outcome-in-Some-Reconcile.result ran.leaves c.status_of_outcome-in-Some-Reconcile.ensures

-- The causes of a run that ended with an outcome, by its exit status.
use Rattle.std.proofs.Common.{◌≡◌, ◌≢◌, ◌≤◌, List, ◌⊎◌, ◌∙◌, inl, inr, sym, ap, subst, refl, ℕ, Option, Result, Ok, Err, arith}
use Rattle.adx_io.specs.Streams.{Rises}
use Rattle.day_journal.specs.declared.disk.Disk as disks
use Rattle.adx_io.specs.declared.stop.Stop.{Stop}
use Rattle.bidder_core.specs.Seen.{BidderState}
use Rattle.command_bidder.specs.Bidders.{MayEnd}
use Rattle.command_bidder.proofs.Bidders.{no_disk_fault}
use Rattle.adx_commands.specs.Exchanges.{Day}
use Rattle.adx_commands.proofs.ConnCounts.{IsLeft as IsConnLeft, disk_later as conn_later, disk_rises as conn_rises, disk_stays as conn_stays}
use Rattle.command_day.specs.Days.{EndsAs}
use Rattle.command_day.proofs.DiskCounts.{disk_later as day_later, disk_rises as day_rises, disk_stays as day_stays}
use Rattle.command_gen.specs.GeneratedEnds.{GeneratedRuns}
use Rattle.command_gen.proofs.Serving.{day_risen, day_stayed, never_unread}
use Rattle.command_reconcile.specs.Runs.{Course}
use Rattle.command_reconcile.proofs.DiskCounts.{IsLeft as IsLedgerLeft, disk_later as ledger_later, disk_rises as ledger_rises, disk_stays as ledger_stays}
use Rattle.command_runs.specs.Runs.{HasRunCauses}
use Rattle.command_runs.specs.Statuses.{status_by}
use Rattle.command_runs.specs.declared.outcome.Outcome.{Outcome}
use Rattle.deal_floor.specs.declared.roster.Roster.{Roster}
use Rattle.adx_desk.specs.Courses.{Course as DayCourse}
use Rattle.adx_desk.specs.OnDisk.{CourseOn}
use Rattle.history_runs.specs.Histories.{Opening}
use Rattle.history_runs.proofs.DiskCounts.{IsLeft, disk_later, disk_rises, disk_stays}
use Rattle.adx_desk.proofs.DiskCounts.{day_later as course_later}
use Rattle.adx_commands.specs.Statuses.{HasCauses, HasDiskCauses}

-- the ends that have these statuses
read_failed : (result : Result Outcome Stop) → status_by result ≡ 4 → result ≡ Err Stop.ReadFault
read_failed (Ok Outcome.Done) is = absurd (omega (arith, is))
read_failed (Ok Outcome.Refused) is = absurd (omega (arith, is))
read_failed (Ok Outcome.DiskFault) is = absurd (omega (arith, is))
read_failed (Ok Outcome.NoHistory) is = absurd (omega (arith, is))
read_failed (Ok Outcome.NotAccepted) is = absurd (omega (arith, is))
read_failed (Ok Outcome.KeeperFault) is = absurd (omega (arith, is))
read_failed (Ok Outcome.NotKept) is = absurd (omega (arith, is))
read_failed (Ok Outcome.Pending) is = absurd (omega (arith, is))
read_failed (Err Stop.ReadFault) is = refl
read_failed (Err Stop.WriteFault) is = absurd (omega (arith, is))
read_failed (Err Stop.OutOfMemory) is = absurd (omega (arith, is))

write_failed : (result : Result Outcome Stop) → status_by result ≡ 5 → result ≡ Err Stop.WriteFault
write_failed (Ok Outcome.Done) is = absurd (omega (arith, is))
write_failed (Ok Outcome.Refused) is = absurd (omega (arith, is))
write_failed (Ok Outcome.DiskFault) is = absurd (omega (arith, is))
write_failed (Ok Outcome.NoHistory) is = absurd (omega (arith, is))
write_failed (Ok Outcome.NotAccepted) is = absurd (omega (arith, is))
write_failed (Ok Outcome.KeeperFault) is = absurd (omega (arith, is))
write_failed (Ok Outcome.NotKept) is = absurd (omega (arith, is))
write_failed (Ok Outcome.Pending) is = absurd (omega (arith, is))
write_failed (Err Stop.ReadFault) is = absurd (omega (arith, is))
write_failed (Err Stop.WriteFault) is = refl
write_failed (Err Stop.OutOfMemory) is = absurd (omega (arith, is))

disk_failed : (result : Result Outcome Stop) → status_by result ≡ 6 → result ≡ Ok Outcome.DiskFault
disk_failed (Ok Outcome.Done) is = absurd (omega (arith, is))
disk_failed (Ok Outcome.Refused) is = absurd (omega (arith, is))
disk_failed (Ok Outcome.DiskFault) is = refl
disk_failed (Ok Outcome.NoHistory) is = absurd (omega (arith, is))
disk_failed (Ok Outcome.NotAccepted) is = absurd (omega (arith, is))
disk_failed (Ok Outcome.KeeperFault) is = absurd (omega (arith, is))
disk_failed (Ok Outcome.NotKept) is = absurd (omega (arith, is))
disk_failed (Ok Outcome.Pending) is = absurd (omega (arith, is))
disk_failed (Err Stop.ReadFault) is = absurd (omega (arith, is))
disk_failed (Err Stop.WriteFault) is = absurd (omega (arith, is))
disk_failed (Err Stop.OutOfMemory) is = absurd (omega (arith, is))

pub done_at : (result : Result Outcome Stop) → status_by result ≡ 0 → result ≡ Ok Outcome.Done
done_at (Ok Outcome.Done) is = refl
done_at (Ok Outcome.Refused) is = absurd (omega (arith, is))
done_at (Ok Outcome.DiskFault) is = absurd (omega (arith, is))
done_at (Ok Outcome.NoHistory) is = absurd (omega (arith, is))
done_at (Ok Outcome.NotAccepted) is = absurd (omega (arith, is))
done_at (Ok Outcome.KeeperFault) is = absurd (omega (arith, is))
done_at (Ok Outcome.NotKept) is = absurd (omega (arith, is))
done_at (Ok Outcome.Pending) is = absurd (omega (arith, is))
done_at (Err Stop.ReadFault) is = absurd (omega (arith, is))
done_at (Err Stop.WriteFault) is = absurd (omega (arith, is))
done_at (Err Stop.OutOfMemory) is = absurd (omega (arith, is))

no_history_at : (result : Result Outcome Stop) → status_by result ≡ 7 → result ≡ Ok Outcome.NoHistory
no_history_at (Ok Outcome.Done) is = absurd (omega (arith, is))
no_history_at (Ok Outcome.Refused) is = absurd (omega (arith, is))
no_history_at (Ok Outcome.DiskFault) is = absurd (omega (arith, is))
no_history_at (Ok Outcome.NoHistory) is = refl
no_history_at (Ok Outcome.NotAccepted) is = absurd (omega (arith, is))
no_history_at (Ok Outcome.KeeperFault) is = absurd (omega (arith, is))
no_history_at (Ok Outcome.NotKept) is = absurd (omega (arith, is))
no_history_at (Ok Outcome.Pending) is = absurd (omega (arith, is))
no_history_at (Err Stop.ReadFault) is = absurd (omega (arith, is))
no_history_at (Err Stop.WriteFault) is = absurd (omega (arith, is))
no_history_at (Err Stop.OutOfMemory) is = absurd (omega (arith, is))

-- the causes of a run are those of its status
pub caused : (read read_now write write_now : ℕ) (result : Result Outcome Stop) (status : ℕ) → HasRunCauses read read_now write write_now result → status ≡ status_by result → HasCauses read read_now write write_now status
caused read read_now write write_now result status causes told = record {
  read_fault = λ is. causes.read_fault (read_failed result (sym told ∙ is));
  read_passed = λ other. causes.read_same (λ is. other (told ∙ ap status_by is));
  write_fault = λ is. causes.write_fault (write_failed result (sym told ∙ is));
  write_passed = λ other. causes.write_same (λ is. other (told ∙ ap status_by is));
  source_later = causes.read_later;
  sink_later = causes.write_later;
}

passed : (result : Result Outcome Stop) → (status_by result ≡ 0) ⊎ (status_by result ≡ 7) → (result ≡ Ok Outcome.Done) ⊎ (result ≡ Ok Outcome.NoHistory)
passed result (inl is) = inl (done_at result is)
passed result (inr is) = inr (no_history_at result is)

-- and so is the disk's count, where something was printed of a history
pub counted_print : {D : Type 0} (d : disks.Ghosts D) (course : Option (Roster × Opening)) (old new : D) (result : Result Outcome Stop) (status : ℕ) → IsLeft d old new result course → status ≡ status_by result
    → HasDiskCauses (d.faults old) (d.faults new) status
counted_print d course old new result status left told = record {
  disk_fault = λ is. disk_rises d old new result course left (disk_failed result (sym told ∙ is));
  disk_passed = λ is. disk_stays d old new result course left (passed result (subst (λ n. (n ≡ 0) ⊎ (n ≡ 7)) told is));
  disk_later = disk_later d old new result course left;
}

-- and where a day was served
pub counted_day : {D : Type 0} (d : disks.Ghosts D) (course : DayCourse) (old new : D) (result : Result Outcome Stop) (status : ℕ) → EndsAs course result → CourseOn d.faults d.reads d.may_leave d.moment d.left_since course old new → status ≡ status_by result
    → HasDiskCauses (d.faults old) (d.faults new) status
counted_day d course old new result status ends left told = record {
  disk_fault = λ is. day_rises d course old new result ends left (disk_failed result (sym told ∙ is));
  disk_passed = λ is. day_stays d course old new result ends left (passed result (subst (λ n. (n ≡ 0) ⊎ (n ≡ 7)) told is));
  disk_later = day_later d course old new left;
}

-- and where an exchange was served on a connection
pub counted_conn : {D : Type 0} (d : disks.Ghosts D) (course : Option (Roster × Day)) (old new : D) (result : Result Outcome Stop) (status : ℕ) → IsConnLeft d old new result course → status ≡ status_by result
    → HasDiskCauses (d.faults old) (d.faults new) status
counted_conn d course old new result status left told = record {
  disk_fault = λ is. conn_rises d old new result course left (disk_failed result (sym told ∙ is));
  disk_passed = λ is. conn_stays d old new result course left (passed result (subst (λ n. (n ≡ 0) ⊎ (n ≡ 7)) told is));
  disk_later = conn_later d old new result course left;
}

-- a bidder's run meets no disk
pub counted_bidder : (count : ℕ) (course : Option (BidderState × BidderState)) (result : Result Outcome Stop) (status : ℕ) → MayEnd course result → status ≡ status_by result → HasDiskCauses count count status
counted_bidder count course result status ends told = record {
  disk_fault = λ is. absurd (no_disk_fault course result ends (disk_failed result (sym told ∙ is)));
  disk_passed = λ either. refl;
  disk_later = omega arith;
}

-- and where its bills were compared with a ledger
pub counted_ledger : {D : Type 0} (d : disks.Ghosts D) (course : Course) (old new : D) (result : Result Outcome Stop) (status : ℕ) → IsLedgerLeft d old new result course → status ≡ status_by result
    → HasDiskCauses (d.faults old) (d.faults new) status
counted_ledger d course old new result status left told = record {
  disk_fault = λ is. ledger_rises d old new result course left (disk_failed result (sym told ∙ is));
  disk_passed = λ is. ledger_stays d old new result course left (passed result (subst (λ n. (n ≡ 0) ⊎ (n ≡ 7)) told is));
  disk_later = ledger_later d old new result course left;
}

-- a generated day reads nothing
pub caused_generated : {D : Type 0} (d : disks.Ghosts D) (seed asks : ℕ) (held held_now : Option (List ℕ)) (old new : D) (read write write_now : ℕ) (result : Result Outcome Stop) (status : ℕ)
    → GeneratedRuns d seed asks held held_now old new result → (result ≡ Err Stop.WriteFault → Rises write write_now) → (result ≢ Err Stop.WriteFault → write_now ≡ write) → write ≤ write_now → status ≡ status_by result
    → HasCauses read read write write_now status
caused_generated d seed asks held held_now old new read write write_now result status runs failed passed_by later told = record {
  read_fault = λ is. absurd (never_unread d seed asks held held_now old new result runs (read_failed result (sym told ∙ is)));
  read_passed = λ other. refl;
  write_fault = λ is. failed (write_failed result (sym told ∙ is));
  write_passed = λ other. passed_by (λ is. other (told ∙ ap status_by is));
  source_later = omega arith;
  sink_later = later;
}

not_disk : (result : Result Outcome Stop) → (result ≡ Ok Outcome.Done) ⊎ (result ≡ Ok Outcome.NoHistory) → result ≡ Ok Outcome.DiskFault → ⊥
not_disk result (inl done) is = cc (done, is)
not_disk result (inr none) is = cc (none, is)

pub counted_generated : {D : Type 0} (d : disks.Ghosts D) (seed asks : ℕ) (held held_now : Option (List ℕ)) (old new : D) (result : Result Outcome Stop) (status : ℕ)
    → GeneratedRuns d seed asks held held_now old new result → status ≡ status_by result → HasDiskCauses (d.faults old) (d.faults new) status
counted_generated d seed asks held held_now old new result status runs told = record {
  disk_fault = λ is. day_risen d seed asks held held_now old new result runs (disk_failed result (sym told ∙ is));
  disk_passed = λ is. day_stayed d seed asks held held_now old new result runs (not_disk result (passed result (subst (λ n. (n ≡ 0) ⊎ (n ≡ 7)) told is)));
  disk_later = course_later d.faults d.reads d.may_leave d.moment d.left_since runs.course old new runs.on_disk;
}

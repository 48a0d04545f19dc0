-- The disk's count of faults, by how a reconciliation ended.
use Rattle.std.proofs.Common.{◌≡◌, ◌⊎◌, inl, inr, sym, ℕ, ◌≤◌, Some, None, Result, Ok, Err, arith}
use Rattle.adx_io.specs.Streams.{Rises}
use Rattle.day_journal.specs.declared.disk.Disk as disk
use Rattle.adx_io.specs.declared.stop.Stop.{Stop}
use Rattle.command_reconcile.specs.Reconciling.{EndsRead, LeavesDisk}
use Rattle.command_reconcile.specs.Runs.{Course}
use Rattle.command_runs.specs.Firsts.{LeavesFirst}
use Rattle.command_runs.specs.declared.outcome.Outcome.{Outcome}
use Rattle.history_runs.specs.Histories.{Opening}
use Rattle.history_runs.proofs.DiskCounts.{disk_later as day_later, disk_rises as day_rises, disk_stays as day_stays}

same_later : (before now : ℕ) → now ≡ before → before ≤ now
same_later before now same = omega (arith, same)

not_disk : (result : Result Outcome Stop) → EndsRead result → result ≡ Ok Outcome.DiskFault → ⊥
not_disk (Ok outcome) (inl done) is = cc (sym done, is)
not_disk (Ok outcome) (inr refused) is = cc (sym refused, is)
not_disk (Err stop) ends is = cc is

module _ {D : Type 0} (d : disk.Ghosts D) (old new : D) (result : Result Outcome Stop) where
  -- the disk was left so by what came of the roster and of its day
  abbrev pub IsLeft : Course → Type 0
  IsLeft course = LeavesFirst (λ (before now : D) r day. LeavesDisk d r day before now) old new course result

  pub disk_later : (course : Course) → IsLeft course → d.faults old ≤ d.faults new
  disk_later None left = day_later d old new result None left
  disk_later (Some (r, Ok history)) left = same_later (d.faults old) (d.faults new) left.0.counted
  disk_later (Some (r, Err why)) left = day_later d old new result (Some (r, Opening.given_up why)) left

  pub disk_rises : (course : Course) → IsLeft course → result ≡ Ok Outcome.DiskFault → Rises (d.faults old) (d.faults new)
  disk_rises None left is = day_rises d old new result None left is
  disk_rises (Some (r, Ok history)) left is = absurd (not_disk result left.1 is)
  disk_rises (Some (r, Err why)) left is = day_rises d old new result (Some (r, Opening.given_up why)) left is

  pub disk_stays : (course : Course) → IsLeft course → (result ≡ Ok Outcome.Done) ⊎ (result ≡ Ok Outcome.NoHistory) → d.faults new ≡ d.faults old
  disk_stays None left is = day_stays d old new result None left is
  disk_stays (Some (r, Ok history)) left is = left.0.counted
  disk_stays (Some (r, Err why)) left is = day_stays d old new result (Some (r, Opening.given_up why)) left is

-- The disk's count of faults over a day: it rises where the day ended by the disk's fault, and it stays where it was done.
use Rattle.std.proofs.Common.{◌≡◌, ◌≢◌, ◌⊎◌, inl, inr, ℕ, ◌≤◌, Result, Ok, sym, ap, ◌∙◌, subst}
use Rattle.adx_desk.specs.Openings.{HasDiskCause}
use Rattle.adx_desk.specs.declared.fault.DeskFault.{DeskFault}
use Rattle.adx_io.specs.Streams.{Rises}
use Rattle.day_journal.specs.declared.disk.Disk as disks
use Rattle.adx_io.specs.declared.stop.Stop.{Stop}
use Rattle.command_runs.specs.declared.outcome.Outcome.{Outcome}
use Rattle.adx_desk.specs.Courses.{Course, given_up, served, unopened}
use Rattle.adx_desk.specs.OnDisk.{CourseOn}
use Rattle.adx_desk.proofs.DiskCounts.{day_later, run_rises, run_stays}
use Rattle.history_runs.specs.Unopened.{GivesUpBy, MayEndAs}
use Rattle.command_day.specs.Days.{EndsAs, EndsServed}

-- a run that may be cut short while its line is put has no other ending
no_fault : (result : Result Outcome Stop) → MayEndAs (Ok Outcome.NoHistory) result → result ≡ Ok Outcome.DiskFault → ⊥
no_fault result (inl is) at = cc (sym is ∙ at)
no_fault result (inr (inl is)) at = cc (sym is ∙ at)
no_fault result (inr (inr is)) at = cc (sym is ∙ at)

cause_rises : (a b : ℕ) (why : DeskFault) (result : Result Outcome Stop) → GivesUpBy why result → HasDiskCause a b why → result ≡ Ok Outcome.DiskFault → Rises a b
cause_rises a b DeskFault.DiskFault result ends cause at = cause.1
cause_rises a b (DeskFault.JournalFull size) result ends cause at = absurd (no_fault result ends at)
cause_rises a b (DeskFault.BadEntry place) result ends cause at = absurd (no_fault result ends at)
cause_rises a b (DeskFault.OtherRoster kept) result ends cause at = absurd (no_fault result ends at)
cause_rises a b (DeskFault.NotAJournal place) result ends cause at = absurd (no_fault result ends at)
cause_rises a b (DeskFault.BadLength place) result ends cause at = absurd (no_fault result ends at)
cause_rises a b DeskFault.OutOfMemory result ends cause at = absurd (cc (sym ends ∙ at))

cause_stays : (a b : ℕ) (why : DeskFault) (result : Result Outcome Stop) → GivesUpBy why result → HasDiskCause a b why → result ≢ Ok Outcome.DiskFault → b ≡ a
cause_stays a b DeskFault.DiskFault result ends cause other = absurd (other ends)
cause_stays a b (DeskFault.JournalFull size) result ends cause other = cause
cause_stays a b (DeskFault.BadEntry place) result ends cause other = cause
cause_stays a b (DeskFault.OtherRoster kept) result ends cause other = cause
cause_stays a b (DeskFault.NotAJournal place) result ends cause other = cause
cause_stays a b (DeskFault.BadLength place) result ends cause other = cause
cause_stays a b DeskFault.OutOfMemory result ends cause other = cause

module _ {D : Type 0} (d : disks.Ghosts D) where
  -- what became of a day's disk
  abbrev IsLeft : Course → D → D → Type 0
  IsLeft course old new = CourseOn d.faults d.reads d.may_leave d.moment d.left_since course old new

  -- it rose where the day ended by the disk's fault
  pub disk_rises : (course : Course) (old new : D) (result : Result Outcome Stop) → EndsAs course result → IsLeft course old new → result ≡ Ok Outcome.DiskFault → Rises (d.faults old) (d.faults new)
  disk_rises unopened old new result ends same at = absurd (cc (subst (EndsAs unopened) at ends))
  disk_rises (given_up r why) old new result ends (gives_up, cause) at = cause_rises (d.faults old) (d.faults new) why result ends cause at
  disk_rises (served r start told unwritten) old new result ends serves at =
      let faulted = subst (EndsServed told unwritten) at ends in
      run_rises (d.faults old) (d.faults new) told unwritten faulted.0 faulted.1 serves.counted

  -- and stayed where it was done, or the file isn't a journal of the day
  pub disk_stays : (course : Course) (old new : D) (result : Result Outcome Stop) → EndsAs course result → IsLeft course old new → (result ≡ Ok Outcome.Done) ⊎ (result ≡ Ok Outcome.NoHistory) → d.faults new ≡ d.faults old
  disk_stays unopened old new result ends same at = ap d.faults same
  disk_stays (given_up r why) old new result ends (gives_up, cause) (inl at) = cause_stays (d.faults old) (d.faults new) why result ends cause (λ e. cc (sym at ∙ e))
  disk_stays (given_up r why) old new result ends (gives_up, cause) (inr at) = cause_stays (d.faults old) (d.faults new) why result ends cause (λ e. cc (sym at ∙ e))
  disk_stays (served r start told unwritten) old new result ends serves (inl at) =
      let passed = subst (EndsServed told unwritten) at ends in
      run_stays (d.faults old) (d.faults new) told unwritten passed.0 passed.1 serves.counted
  disk_stays (served r start told unwritten) old new result ends serves (inr at) = absurd (subst (EndsServed told unwritten) at ends).0

  -- it never falls
  pub disk_later : (course : Course) (old new : D) → IsLeft course old new → d.faults old ≤ d.faults new
  disk_later course old new left = day_later d.faults d.reads d.may_leave d.moment d.left_since course old new left

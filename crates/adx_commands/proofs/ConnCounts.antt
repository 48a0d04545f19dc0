-- The disk's count of faults over a run: it rises where the run ended by the disk's fault, and it stays where it was done.
use Rattle.std.proofs.Common.{◌≡◌, ◌⊎◌, inl, inr, ◌≤◌, List, Option, Some, None, Result, Ok, Err, sym, ap, ◌∙◌, subst, arith}
use Rattle.adx_io.specs.Streams.{Rises}
use Rattle.day_journal.specs.declared.disk.Disk as disks
use Rattle.adx_io.specs.declared.stop.Stop.{Stop}
use Rattle.command_day.proofs.DiskCounts.{disk_later as course_later, disk_rises as course_rises, disk_stays as course_stays}
use Rattle.command_runs.specs.Firsts.{EndsHeadless, LeavesFirst}
use Rattle.command_runs.specs.declared.outcome.Outcome.{Outcome}
use Rattle.deal_floor.specs.declared.roster.Roster.{Roster}
use Rattle.adx_desk.specs.Courses.{given_up}
use Rattle.adx_desk.specs.Meanings.{Told}
use Rattle.adx_desk.specs.Told.{told_of}
use Rattle.adx_commands.specs.Exchanges.{Day, EndsServed, LeavesDay, was_given_up, was_served, was_unbegun}
use Rattle.adx_commands.proofs.ConnDisks.{counts_later}

-- a run whose first line had no roster met no fault of the disk, and neither did one that is done
headless_other : (outcome : Outcome) (result : Result Outcome Stop) → EndsHeadless result → result ≡ Ok outcome → outcome ≡ Outcome.Refused
headless_other outcome (Ok o) ends is = cc (is, ends)
headless_other outcome (Err stop) ends is = absurd (cc is)

module _ {D : Type 0} (d : disks.Ghosts D) (old new : D) (result : Result Outcome Stop) where
  abbrev pub IsLeft : Option (Roster × Day) → Type 0
  IsLeft course = LeavesFirst (λ before now r day. LeavesDay d r day before now) old new course result

  risen : (told : List Told) → EndsServed told (d.faults old) (d.faults new) result → result ≡ Ok Outcome.DiskFault → Rises (d.faults old) (d.faults new)
  risen told ends is = subst (EndsServed told (d.faults old) (d.faults new)) is ends

  stayed : (told : List Told) → EndsServed told (d.faults old) (d.faults new) result → (result ≡ Ok Outcome.Done) ⊎ (result ≡ Ok Outcome.NoHistory) → d.faults new ≡ d.faults old
  stayed told ends (inl is) = (subst (EndsServed told (d.faults old) (d.faults new)) is ends).1
  stayed told ends (inr is) = absurd (subst (EndsServed told (d.faults old) (d.faults new)) is ends)

  pub disk_rises : (course : Option (Roster × Day)) → IsLeft course → result ≡ Ok Outcome.DiskFault → Rises (d.faults old) (d.faults new)
  disk_rises None left is = absurd (cc (headless_other Outcome.DiskFault result left.1 is))
  disk_rises (Some (r, was_unbegun)) left is = absurd (cc (sym left.1 ∙ is))
  disk_rises (Some (r, was_given_up why)) left is = course_rises d (given_up r why) old new result left.0 left.1 is
  disk_rises (Some (r, was_served start lanes course)) left is = risen (told_of course.steps) left.ends is

  pub disk_stays : (course : Option (Roster × Day)) → IsLeft course → (result ≡ Ok Outcome.Done) ⊎ (result ≡ Ok Outcome.NoHistory) → d.faults new ≡ d.faults old
  disk_stays None left is = ap d.faults left.0
  disk_stays (Some (r, was_unbegun)) left is = ap d.faults left.0
  disk_stays (Some (r, was_given_up why)) left is = course_stays d (given_up r why) old new result left.0 left.1 is
  disk_stays (Some (r, was_served start lanes course)) left is = stayed (told_of course.steps) left.ends is

  pub disk_later : (course : Option (Roster × Day)) → IsLeft course → d.faults old ≤ d.faults new
  disk_later None left = omega (arith, ap d.faults left.0)
  disk_later (Some (r, was_unbegun)) left = omega (arith, ap d.faults left.0)
  disk_later (Some (r, was_given_up why)) left = course_later d (given_up r why) old new left.1
  disk_later (Some (r, was_served start lanes course)) left = counts_later (told_of course.steps) (d.faults old) (d.faults new) left.on_disk.counted

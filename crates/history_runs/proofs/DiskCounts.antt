-- The disk's count of faults, by how a run ended that prints of a history.
use Rattle.std.proofs.Common.{◌≡◌, ◌⊎◌, ◌∙◌, inl, inr, sym, ap, ℕ, ◌≤◌, Option, Some, None, Result, Ok, Err, arith}
use Rattle.adx_desk.specs.Openings.{HasDiskCause}
use Rattle.adx_desk.specs.declared.fault.DeskFault.{DeskFault}
use Rattle.adx_io.specs.Streams.{Rises}
use Rattle.day_journal.specs.declared.disk.Disk as disk
use Rattle.adx_io.specs.declared.stop.Stop.{Stop}
use Rattle.command_runs.specs.Firsts.{EndsHeadless, LeavesFirst}
use Rattle.command_runs.specs.declared.outcome.Outcome.{Outcome}
use Rattle.deal_floor.specs.declared.roster.Roster.{Roster}
use Rattle.history_runs.specs.Histories.{LeavesDay, Opening}
use Rattle.history_runs.specs.Unopened.{MayEndAs, unopened_end}
use Rattle.history_runs.proofs.Unopened.{gives_up_may}

same_later : (before now : ℕ) → now ≡ before → before ≤ now
same_later before now same = omega (arith, same)

-- a run that ended of its own ended as was wanted
as_wanted : (wanted result : Result Outcome Stop) (outcome : Outcome) → MayEndAs wanted result → result ≡ Ok outcome → wanted ≡ Ok outcome
as_wanted wanted result outcome (inl same) is = sym same ∙ is
as_wanted wanted result outcome (inr (inl failed)) is = absurd (cc (sym failed ∙ is))
as_wanted wanted result outcome (inr (inr refused)) is = absurd (cc (sym refused ∙ is))

later_by : (before now : ℕ) (why : DeskFault) → HasDiskCause before now why → before ≤ now
later_by before now DeskFault.DiskFault cause = cause.0
later_by before now (DeskFault.JournalFull size) cause = same_later before now cause
later_by before now (DeskFault.BadEntry at) cause = same_later before now cause
later_by before now (DeskFault.OtherRoster kept) cause = same_later before now cause
later_by before now (DeskFault.NotAJournal at) cause = same_later before now cause
later_by before now (DeskFault.BadLength at) cause = same_later before now cause
later_by before now DeskFault.OutOfMemory cause = same_later before now cause

rises_by : (before now : ℕ) (why : DeskFault) → HasDiskCause before now why → unopened_end why ≡ Ok Outcome.DiskFault → Rises before now
rises_by before now DeskFault.DiskFault cause is = cause.1
rises_by before now (DeskFault.JournalFull size) cause is = absurd (cc is)
rises_by before now (DeskFault.BadEntry at) cause is = absurd (cc is)
rises_by before now (DeskFault.OtherRoster kept) cause is = absurd (cc is)
rises_by before now (DeskFault.NotAJournal at) cause is = absurd (cc is)
rises_by before now (DeskFault.BadLength at) cause is = absurd (cc is)
rises_by before now DeskFault.OutOfMemory cause is = absurd (cc is)

stays_by : (before now : ℕ) (why : DeskFault) → HasDiskCause before now why → (unopened_end why ≡ Ok Outcome.Done) ⊎ (unopened_end why ≡ Ok Outcome.NoHistory) → now ≡ before
stays_by before now DeskFault.DiskFault cause (inl is) = absurd (cc is)
stays_by before now DeskFault.DiskFault cause (inr is) = absurd (cc is)
stays_by before now (DeskFault.JournalFull size) cause is = cause
stays_by before now (DeskFault.BadEntry at) cause is = cause
stays_by before now (DeskFault.OtherRoster kept) cause is = cause
stays_by before now (DeskFault.NotAJournal at) cause is = cause
stays_by before now (DeskFault.BadLength at) cause is = cause
stays_by before now DeskFault.OutOfMemory cause is = cause

no_fault : (result : Result Outcome Stop) → EndsHeadless result → result ≡ Ok Outcome.DiskFault → ⊥
no_fault (Ok outcome) ends is = cc (sym ends, is)
no_fault (Err stop) ends is = cc is

module _ {D : Type 0} (d : disk.Ghosts D) (old new : D) (result : Result Outcome Stop) where
  -- the disk was left so by what came of the roster and of its day
  abbrev pub IsLeft : Option (Roster × Opening) → Type 0
  IsLeft course = LeavesFirst (λ (before now : D) r o. LeavesDay d r o before now) old new course result

  pub disk_later : (course : Option (Roster × Opening)) → IsLeft course → d.faults old ≤ d.faults new
  disk_later None left = same_later (d.faults old) (d.faults new) (ap d.faults left.0)
  disk_later (Some (r, Opening.opened history)) left = same_later (d.faults old) (d.faults new) left.0.counted
  disk_later (Some (r, Opening.given_up why)) left = later_by (d.faults old) (d.faults new) why left.1
  disk_later (Some (r, Opening.unopened)) left = same_later (d.faults old) (d.faults new) (ap d.faults left.0)

  pub disk_rises : (course : Option (Roster × Opening)) → IsLeft course → result ≡ Ok Outcome.DiskFault → Rises (d.faults old) (d.faults new)
  disk_rises None left is = absurd (no_fault result left.1 is)
  disk_rises (Some (r, Opening.opened history)) left is = absurd (cc (as_wanted (Ok Outcome.Done) result Outcome.DiskFault left.1 is))
  disk_rises (Some (r, Opening.given_up why)) left is = rises_by (d.faults old) (d.faults new) why left.1 (as_wanted (unopened_end why) result Outcome.DiskFault (gives_up_may why result left.2) is)
  disk_rises (Some (r, Opening.unopened)) left is = absurd (left.2 is)

  pub disk_stays : (course : Option (Roster × Opening)) → IsLeft course → (result ≡ Ok Outcome.Done) ⊎ (result ≡ Ok Outcome.NoHistory) → d.faults new ≡ d.faults old
  disk_stays None left is = ap d.faults left.0
  disk_stays (Some (r, Opening.opened history)) left is = left.0.counted
  disk_stays (Some (r, Opening.given_up why)) left (inl is) = stays_by (d.faults old) (d.faults new) why left.1 (inl (as_wanted (unopened_end why) result Outcome.Done (gives_up_may why result left.2) is))
  disk_stays (Some (r, Opening.given_up why)) left (inr is) = stays_by (d.faults old) (d.faults new) why left.1 (inr (as_wanted (unopened_end why) result Outcome.NoHistory (gives_up_may why result left.2) is))
  disk_stays (Some (r, Opening.unopened)) left is = ap d.faults left.0

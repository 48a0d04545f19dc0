-- How a generated day ends, by what was taken and put.
use Rattle.std.proofs.Common.{◌≡◌, ◌≢◌, ℕ, List, [], Option, Some, None, Result, Ok, Err, refl, sym, ap, ◌∙◌, subst, append-nil}
use Rattle.adx_io.specs.Streams.{Rises, Took}
use Rattle.day_journal.specs.declared.disk.Disk as disk
use Rattle.adx_io.specs.declared.stop.Stop.{Stop}
use Rattle.adx_desk.specs.Desks.{OnDisk}
use Rattle.adx_desk.specs.Histories.{DeskTerms}
use Rattle.adx_desk.specs.Openings.{HasDiskCause}
use Rattle.adx_desk.specs.Rosters.{desk_terms}
use Rattle.adx_desk.specs.declared.fault.DeskFault.{DeskFault}
use Rattle.answer_lines.specs.Table.{closing_table}
use Rattle.command_runs.specs.Meanings.{TookPrefix}
use Rattle.command_runs.specs.declared.outcome.Outcome.{Outcome}
use Rattle.day_rules.specs.declared.entry.Entry.{Entry}
use Rattle.day_rules.specs.Runs.{run}
use Rattle.day_rules.specs.Terms.{Terms}
use Rattle.deal_floor.specs.declared.roster.Roster.{Roster}
use Rattle.adx_desk.specs.Courses.{Course, HasDiskFault, HasNoDiskFault, given_up, served, unopened}
use Rattle.adx_desk.specs.Meanings.{Told, turns_of}
use Rattle.adx_desk.specs.OnDisk.{CourseOn, history_after}
use Rattle.adx_desk.proofs.DiskCounts.{run_rises, run_stays}
use Rattle.history_runs.specs.Script.{terms_by}
use Rattle.command_gen.specs.Generated.{AreOfDay, BeginDay, generated_history}
use Rattle.command_gen.specs.GeneratedEnds.{EndsAtFault, EndsGenerated, EndsTaken, EndsUntaken, GeneratedRuns, TellsTable}
use Rattle.command_gen.specs.Taking.{PutsTable, RunsCalls, TakesDay}
use Rattle.command_gen.specs.declared.early.EarlyEnd.{EarlyEnd}
use Rattle.command_gen.proofs.Taking.{serves_history}

-- all calls were taken, and the table was put, or a prefix of it, or memory was refused for it
table_put : (r : Roster) (seed asks : ℕ) (start now : List Entry) (told : List Told) (held held_now : Option (List ℕ)) (result : Result Outcome Stop) → AreOfDay (terms_by r) seed asks start told → HasNoDiskFault told
    → now ≡ history_after (terms_by r) start told → PutsTable r now held held_now result → EndsTaken r seed asks start told held held_now result
table_put r seed asks start now told held held_now (Ok Outcome.Done) of none is took =
    (of, none, subst (λ (h : List Entry). Took held held_now (closing_table r.campaigns (terms_by r) h)) is took)
table_put r seed asks start now told held held_now (Ok Outcome.Refused) of none is took = absurd took
table_put r seed asks start now told held held_now (Ok Outcome.DiskFault) of none is took = absurd took
table_put r seed asks start now told held held_now (Ok Outcome.NoHistory) of none is took = absurd took
table_put r seed asks start now told held held_now (Ok Outcome.NotAccepted) of none is took = absurd took
table_put r seed asks start now told held held_now (Ok Outcome.KeeperFault) of none is took = absurd took
table_put r seed asks start now told held held_now (Ok Outcome.NotKept) of none is took = absurd took
table_put r seed asks start now told held held_now (Ok Outcome.Pending) of none is took = absurd took
table_put r seed asks start now told held held_now (Err Stop.ReadFault) of none is took = absurd took
table_put r seed asks start now told held held_now (Err Stop.WriteFault) of none is took =
    (of, none, subst (λ (h : List Entry). TookPrefix held held_now (closing_table r.campaigns (terms_by r) h)) is took)
table_put r seed asks start now told held held_now (Err Stop.OutOfMemory) of none is took =
    (([], subst (AreOfDay (terms_by r) seed asks start) (sym (append-nil told)) of), none, took)

module _ {D : Type 0} (faults : D → ℕ) (may_leave : D → List ℕ → Type 0) (moment : D → ℕ) (left_since : D → ℕ → List ℕ → Type 0) (old new : OnDisk D) (r : Roster) (seed asks : ℕ)
    (opened : old.desk.terms ≡ desk_terms r) where
  by_roster : old.desk.terms.day ≡ terms_by r
  by_roster = ap (λ (t : DeskTerms). t.day) opened

  -- the calls of a day were taken, and its table was put so
  pub calls_told : (held held_now : Option (List ℕ)) (result : Result Outcome Stop) → TakesDay faults may_leave moment left_since old new seed asks (Ok tt)
      → PutsTable r new.desk.history held held_now result → RunsCalls faults may_leave moment left_since old new r seed asks held held_now result
  calls_told held held_now result taken puts = record {
    told = taken.told;
    serves = taken.serves;
    ends = table_put r seed asks old.desk.history new.desk.history taken.told held held_now result (subst (λ (t : Terms). AreOfDay t seed asks old.desk.history taken.told) by_roster taken.took.0) taken.took.1
        (serves_history faults may_leave moment left_since old new taken.told taken.serves ∙ ap (λ (t : Terms). run t old.desk.history (turns_of taken.told)) by_roster) puts;
  }

  -- they ended early
  pub calls_faulted : (held : Option (List ℕ)) → TakesDay faults may_leave moment left_since old new seed asks (Err EarlyEnd.DiskFault) → RunsCalls faults may_leave moment left_since old new r seed asks held held (Ok Outcome.DiskFault)
  calls_faulted held taken = record {
    told = taken.told;
    serves = taken.serves;
    ends = (subst (λ (t : Terms). BeginDay t seed asks old.desk.history taken.told) by_roster taken.took.0, taken.took.1, refl);
  }

  pub calls_refused : (held : Option (List ℕ)) → TakesDay faults may_leave moment left_since old new seed asks (Err EarlyEnd.OutOfMemory) → RunsCalls faults may_leave moment left_since old new r seed asks held held (Err Stop.OutOfMemory)
  calls_refused held taken = record {
    told = taken.told;
    serves = taken.serves;
    ends = (subst (λ (t : Terms). BeginDay t seed asks old.desk.history taken.told) by_roster taken.took.0, taken.took.1, refl);
  }

-- from no entry the table is that of the run over the generated calls
pub table_told : (r : Roster) (seed asks : ℕ) (start : List Entry) (told : List Told) (held held_now : Option (List ℕ)) (result : Result Outcome Stop) → EndsTaken r seed asks start told held held_now result
    → (start ≡ [] → AreOfDay (terms_by r) seed asks start told → HasNoDiskFault told → history_after (terms_by r) start told ≡ generated_history (terms_by r) seed asks) → TellsTable r seed asks start held held_now result
table_told r seed asks start told held held_now result ends all none done =
    let e = subst (EndsTaken r seed asks start told held held_now) done ends in
    subst (λ (h : List Entry). Took held held_now (closing_table r.campaigns (terms_by r) h)) (all none e.0 e.1) e.2

-- the calls of which the last was given up by the disk have such a one
has_fault : (told : List Told) → EndsAtFault told → HasDiskFault told
has_fault told f = record { front = f.front; faulted = f.faulted; back = []; split = f.split; by_disk = f.by_disk }

-- none was given up by the disk where the day ended otherwise
no_fault : (r : Roster) (seed asks : ℕ) (start : List Entry) (told : List Told) (held held_now : Option (List ℕ)) (result : Result Outcome Stop) → EndsTaken r seed asks start told held held_now result → result ≢ Ok Outcome.DiskFault → HasNoDiskFault told
no_fault r seed asks start told held held_now (Ok Outcome.Done) ends other = ends.1
no_fault r seed asks start told held held_now (Ok Outcome.Refused) ends other = absurd ends
no_fault r seed asks start told held held_now (Ok Outcome.DiskFault) ends other = absurd (other refl)
no_fault r seed asks start told held held_now (Ok Outcome.NoHistory) ends other = absurd ends
no_fault r seed asks start told held held_now (Ok Outcome.NotAccepted) ends other = absurd ends
no_fault r seed asks start told held held_now (Ok Outcome.KeeperFault) ends other = absurd ends
no_fault r seed asks start told held held_now (Ok Outcome.NotKept) ends other = absurd ends
no_fault r seed asks start told held held_now (Ok Outcome.Pending) ends other = absurd ends
no_fault r seed asks start told held held_now (Err Stop.ReadFault) ends other = absurd ends
no_fault r seed asks start told held held_now (Err Stop.WriteFault) ends other = ends.1
no_fault r seed asks start told held held_now (Err Stop.OutOfMemory) ends other = ends.1

-- the disk's count where the opening gave up: it rose where the day ended by the disk's fault, and stayed elsewhere
untaken_rises : (why : DeskFault) (held held_now : Option (List ℕ)) (before now : ℕ) → EndsUntaken why held held_now (Ok Outcome.DiskFault) → HasDiskCause before now why → Rises before now
untaken_rises DeskFault.DiskFault held held_now before now ends cause = cause.1
untaken_rises (DeskFault.JournalFull size) held held_now before now ends cause = absurd (cc ends.0)
untaken_rises (DeskFault.BadEntry at) held held_now before now ends cause = absurd (cc ends.0)
untaken_rises (DeskFault.OtherRoster kept) held held_now before now ends cause = absurd (cc ends.0)
untaken_rises (DeskFault.NotAJournal at) held held_now before now ends cause = absurd (cc ends.0)
untaken_rises (DeskFault.BadLength at) held held_now before now ends cause = absurd (cc ends.0)
untaken_rises DeskFault.OutOfMemory held held_now before now ends cause = absurd (cc ends.0)

by_disk : (held held_now : Option (List ℕ)) (result : Result Outcome Stop) → EndsUntaken DeskFault.DiskFault held held_now result → result ≡ Ok Outcome.DiskFault
by_disk held held_now (Ok outcome) ends = sym ends.0
by_disk held held_now (Err Stop.ReadFault) ends = absurd ends
by_disk held held_now (Err Stop.WriteFault) ends = absurd (cc ends.0)
by_disk held held_now (Err Stop.OutOfMemory) ends = absurd (ends.0 refl)

untaken_stays : (why : DeskFault) (held held_now : Option (List ℕ)) (before now : ℕ) (result : Result Outcome Stop) → EndsUntaken why held held_now result → HasDiskCause before now why → result ≢ Ok Outcome.DiskFault → now ≡ before
untaken_stays DeskFault.DiskFault held held_now before now result ends cause other = absurd (other (by_disk held held_now result ends))
untaken_stays (DeskFault.JournalFull size) held held_now before now result ends cause other = cause
untaken_stays (DeskFault.BadEntry at) held held_now before now result ends cause other = cause
untaken_stays (DeskFault.OtherRoster kept) held held_now before now result ends cause other = cause
untaken_stays (DeskFault.NotAJournal at) held held_now before now result ends cause other = cause
untaken_stays (DeskFault.BadLength at) held held_now before now result ends cause other = cause
untaken_stays DeskFault.OutOfMemory held held_now before now result ends cause other = cause

-- so of a whole day
module _ {D : Type 0} (d : disk.Ghosts D) (seed asks : ℕ) (held held_now : Option (List ℕ)) (old new : D) (result : Result Outcome Stop) where
  abbrev On : Course → Type 0
  On course = CourseOn d.faults d.reads d.may_leave d.moment d.left_since course old new

  rises_by : (course : Course) → EndsGenerated seed asks course held held_now result → On course → result ≡ Ok Outcome.DiskFault → Rises (d.faults old) (d.faults new)
  rises_by unopened ends on is = absurd (cc (sym ends.0 ∙ is))
  rises_by (given_up r why) ends on is = untaken_rises why held held_now (d.faults old) (d.faults new) (subst (EndsUntaken why held held_now) is ends.1) on.1
  rises_by (served r start told None) ends on is =
      let e = subst (EndsTaken r seed asks start told held held_now) is ends.1 in
      run_rises (d.faults old) (d.faults new) told None (has_fault told e.1) refl on.counted
  rises_by (served r start told (Some more)) ends on is = absurd ends

  stays_by : (course : Course) → EndsGenerated seed asks course held held_now result → On course → result ≢ Ok Outcome.DiskFault → d.faults new ≡ d.faults old
  stays_by unopened ends on other = ap d.faults on
  stays_by (given_up r why) ends on other = untaken_stays why held held_now (d.faults old) (d.faults new) result ends.1 on.1 other
  stays_by (served r start told None) ends on other =
      run_stays (d.faults old) (d.faults new) told None (no_fault r seed asks start told held held_now result ends.1 other) refl on.counted
  stays_by (served r start told (Some more)) ends on other = absurd ends

  pub day_risen : GeneratedRuns d seed asks held held_now old new result → result ≡ Ok Outcome.DiskFault → Rises (d.faults old) (d.faults new)
  day_risen s is = rises_by s.course s.ends s.on_disk is

  pub day_stayed : GeneratedRuns d seed asks held held_now old new result → result ≢ Ok Outcome.DiskFault → d.faults new ≡ d.faults old
  day_stayed s other = stays_by s.course s.ends s.on_disk other

-- nothing is read, so no source fails
pub never_unread : {D : Type 0} (d : disk.Ghosts D) (seed asks : ℕ) (held held_now : Option (List ℕ)) (old new : D) (result : Result Outcome Stop) → GeneratedRuns d seed asks held held_now old new result → result ≢ Err Stop.ReadFault
never_unread d seed asks held held_now old new result s is = by s.course (subst (EndsGenerated seed asks s.course held held_now) is s.ends)
  where
    by : (course : Course) → EndsGenerated seed asks course held held_now (Err Stop.ReadFault) → ⊥
    by unopened ends = cc ends.0
    by (given_up r why) ends = ends.1
    by (served r start told None) ends = ends.1
    by (served r start told (Some more)) ends = ends

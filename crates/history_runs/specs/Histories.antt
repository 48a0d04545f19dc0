-- How something of a day's history is printed: what is written, and what the disk keeps. This project's own.
use Rattle.std.specs.Prelude.{◌≡◌, ◌≢◌, ◌⊎◌, ℕ, List, Option, Some, Result, Ok, Err}
use Rattle.adx_desk.specs.Histories.{IsHistoryOf}
use Rattle.adx_desk.specs.Opened.{GivesUp}
use Rattle.adx_desk.specs.Openings.{HasDiskCause, StandsAsRead}
use Rattle.adx_desk.specs.Rosters.{desk_terms}
use Rattle.adx_desk.specs.declared.fault.DeskFault.{DeskFault}
use Rattle.day_journal.specs.Disks.{Each, LeavesOnly}
use Rattle.adx_io.specs.Streams.{Took}
use Rattle.day_journal.specs.declared.disk.Disk as disk
use Rattle.adx_io.specs.declared.rest.Rest.{Rest}
use Rattle.adx_io.specs.declared.stop.Stop.{Stop}
use Rattle.command_runs.specs.Documents.{Judging}
use Rattle.command_runs.specs.Meanings.{PutsEnd, TookPrefix}
use Rattle.command_runs.specs.declared.outcome.Outcome.{Outcome}
use Rattle.day_rules.specs.declared.entry.Entry.{Entry}
use Rattle.day_rules.specs.Legal.{IsLegal}
use Rattle.deal_floor.specs.declared.roster.Roster.{Roster}
use Rattle.history_runs.specs.Unopened.{GivesUpBy, MayEndAs, unopened_end}
use Rattle.history_runs.specs.Output.{unopened_line}
use Rattle.script_lines.specs.Refusals.{roster_refused_line}
use Rattle.script_lines.specs.declared.refusal.RosterRefusal.{RosterRefusal}

-- what a command writes of the history of a roster's day
abbrev pub Prints : Type 1
Prints = Roster → List Entry → List ℕ → Type 0

-- What came of a roster's day: it was opened with a history; opening it gave up for a cause; or it wasn't to be opened.
pub data Opening : Type 0 where
  opened : List Entry → Opening
  given_up : DeskFault → Opening
  unopened : Opening

-- What is written once the input was read: what the command prints of the day's history; or why the day wasn't opened; or,
-- past the limit of an input, that its roster is too long. Nothing depends on what comes after the roster's line.
abbrev pub tells : Prints → Roster → Opening → Judging
tells prints r (opened history) rest bytes outcome out = (rest ≡ Rest.Whole) × (outcome ≡ Outcome.Done) × prints r history out
tells prints r (given_up why) rest bytes outcome out =
    (rest ≡ Rest.Whole) × (unopened_end why ≡ Ok outcome) × (out ≡ unopened_line why)
tells prints r unopened rest bytes outcome out =
    (rest ≡ Rest.PastLimit) × (outcome ≡ Outcome.Refused) × (out ≡ roster_refused_line RosterRefusal.Long)

-- What the command prints of a history was put; where the sink failed, a prefix of it; and where memory was refused,
-- nothing or a prefix of it.
abbrev pub Printed : Prints → Roster → List Entry → Option (List ℕ) → Option (List ℕ) → Result (Unit {0}) Stop → Type 0
Printed prints r history held held_now (Ok done) = (out : List ℕ) × prints r history out × Took held held_now out
Printed prints r history held held_now (Err Stop.ReadFault) = ⊥
Printed prints r history held held_now (Err Stop.WriteFault) = (out : List ℕ) × prints r history out × TookPrefix held held_now out
Printed prints r history held held_now (Err Stop.OutOfMemory) =
    (held_now ≡ held) ⊎ ((out : List ℕ) × prints r history out × TookPrefix held held_now out)

module _ {D : Type 0} (d : disk.Ghosts D) where
  -- A roster's day was opened on a disk with this history, and nothing was added to it. No call of the disk failed.
  pub record KeepsHistory (r : Roster) (history : List Entry) (old new : D) : Type 0 where
    pub legal : IsLegal (desk_terms r).day history
    pub counted : d.faults new ≡ d.faults old
    -- Where the disk tells what it reads, its file stood for the history,
    pub begins : (file : List ℕ) → d.reads old ≡ Some file → IsHistoryOf (desk_terms r) file history
    -- each image stands for it afterwards,
    pub keeps : (file : List ℕ) → d.reads old ≡ Some file → Each (d.may_leave new) (λ image. IsHistoryOf (desk_terms r) image history)
    -- and a crash at any moment of the run leaves an image from before it, or a file of the same history.
    pub any_moment : (file : List ℕ) → d.reads old ≡ Some file
        → LeavesOnly d.moment d.left_since old new (StandsAsRead (desk_terms r) (d.may_leave old) (d.reads old))

  -- What became of the disk, by what came of the day, and how the run ended. Where the day wasn't to be opened, the disk
  -- is as it was.
  abbrev pub LeavesDay : Roster → Opening → D → D → Result Outcome Stop → Type 0
  LeavesDay r (opened history) old new result = KeepsHistory r history old new × MayEndAs (Ok Outcome.Done) result
  LeavesDay r (given_up why) old new result =
      GivesUp d.reads d.may_leave d.moment d.left_since (desk_terms r) old new why × HasDiskCause (d.faults old) (d.faults new) why
      × GivesUpBy why result
  LeavesDay r unopened old new result =
      (new ≡ old) × (result ≢ Ok Outcome.Done) × (result ≢ Ok Outcome.DiskFault) × (result ≢ Ok Outcome.NoHistory)

-- What the steps of such a command do. Private clauses cite what follows.

-- memory was refused before anything was put
abbrev pub PutsNothing : Option (List ℕ) → Option (List ℕ) → Result Outcome Stop → Type 0
PutsNothing held held_now result = (held_now ≡ held) × (result ≡ Err Stop.OutOfMemory)

-- what is written once the input was read was put, or a prefix of it
abbrev pub PutsTold : Prints → Roster → Opening → Option (List ℕ) → Option (List ℕ) → Result Outcome Stop → Type 0
PutsTold prints r o held held_now result =
    ((outcome : Outcome) × (out : List ℕ) × ((bytes : List ℕ) → tells prints r o Rest.Whole bytes outcome out)
    × PutsEnd outcome held held_now out result)
    ⊎ PutsNothing held held_now result

-- The roster's day was opened so, or not, which left the disk so, and what is printed of that was put.
abbrev pub PrintsDay : {D : Type 0} → disk.Ghosts D → Prints → Roster → (old new : D)
    → (held held_now : Option (List ℕ)) → Result Outcome Stop → Type 0
PrintsDay d prints r old new held held_now result =
    (o : Opening) × LeavesDay d r o old new result × PutsTold prints r o held held_now result

-- How a generated day ends on a sink and a disk. This project's own.
use Rattle.std.specs.Prelude.{◌≡◌, ◌≢◌, ℕ, List, [], ◌∷◌, ◌++◌, Option, Some, None, Result, Ok, Err}
use Rattle.adx_io.specs.Streams.{Took}
use Rattle.day_journal.specs.declared.disk.Disk as disk
use Rattle.adx_io.specs.declared.stop.Stop.{Stop}
use Rattle.adx_desk.specs.declared.fault.DeskFault.{DeskFault}
use Rattle.answer_lines.specs.Table.{closing_table}
use Rattle.answer_lines.specs.declared.faults.Fault.{Fault}
use Rattle.command_runs.specs.Meanings.{TookPrefix}
use Rattle.command_runs.specs.declared.outcome.Outcome.{Outcome}
use Rattle.day_rules.specs.declared.entry.Entry.{Entry}
use Rattle.deal_floor.specs.declared.roster.Roster.{Roster}
use Rattle.adx_desk.specs.Courses.{Course, HasNoDiskFault, given_up, served, unopened}
use Rattle.adx_desk.specs.Meanings.{Told}
use Rattle.adx_desk.specs.OnDisk.{CourseOn, history_after}
use Rattle.history_runs.specs.Unopened.{unopened_end}
use Rattle.history_runs.specs.Output.{unopened_line}
use Rattle.history_runs.specs.Script.{terms_by}
use Rattle.script_lines.specs.Rosters.{IsRosterLine}
use Rattle.command_gen.specs.Generated.{AreOfDay, BeginDay, generated_history, generated_line}

-- the last of the calls was given up by a fault of the disk, and none before it
pub record EndsAtFault (told : List Told) : Type 0 where
  pub front : List Told
  pub faulted : Told
  pub split : told ≡ front ++ faulted ∷ []
  pub before : HasNoDiskFault front
  pub by_disk : faulted.fault ≡ Some Fault.Disk

-- the closing table after these calls
abbrev pub table_after : Roster → List Entry → List Told → List ℕ
table_after r start told = closing_table r.campaigns (terms_by r) (history_after (terms_by r) start told)

-- How a generated day ended that was opened with this history. Done: all its calls were taken, and the closing table was
-- written. By the disk: at its first fault, and nothing was written. By the sink: all calls were taken, and a prefix of the
-- table was written. For lack of memory: some first ones were taken, and nothing was written.
abbrev pub EndsTaken : Roster → ℕ → ℕ → List Entry → List Told → (held held_now : Option (List ℕ)) → Result Outcome Stop → Type 0
EndsTaken r seed asks start told held held_now (Ok Outcome.Done) =
    AreOfDay (terms_by r) seed asks start told × HasNoDiskFault told × Took held held_now (table_after r start told)
EndsTaken r seed asks start told held held_now (Ok Outcome.DiskFault) =
    BeginDay (terms_by r) seed asks start told × EndsAtFault told × (held_now ≡ held)
EndsTaken r seed asks start told held held_now (Ok other) = ⊥
EndsTaken r seed asks start told held held_now (Err Stop.ReadFault) = ⊥
EndsTaken r seed asks start told held held_now (Err Stop.WriteFault) =
    AreOfDay (terms_by r) seed asks start told × HasNoDiskFault told × TookPrefix held held_now (table_after r start told)
EndsTaken r seed asks start told held held_now (Err Stop.OutOfMemory) =
    BeginDay (terms_by r) seed asks start told × HasNoDiskFault told × (held_now ≡ held)

-- A day that begins with no entry and is done wrote the closing table of the run over the generated calls: none of them was
-- given up.
abbrev pub TellsTable : Roster → ℕ → ℕ → List Entry → (held held_now : Option (List ℕ)) → Result Outcome Stop → Type 0
TellsTable r seed asks start held held_now result =
    start ≡ [] → result ≡ Ok Outcome.Done
    → Took held held_now (closing_table r.campaigns (terms_by r) (generated_history (terms_by r) seed asks))

-- How a generated day ended whose opening gave up for this cause: with its line, of which a fault of the disk has none; or
-- with a prefix of the line; or with nothing for lack of memory.
abbrev pub EndsUntaken : DeskFault → (held held_now : Option (List ℕ)) → Result Outcome Stop → Type 0
EndsUntaken why held held_now (Ok outcome) = (unopened_end why ≡ Ok outcome) × Took held held_now (unopened_line why)
EndsUntaken why held held_now (Err Stop.ReadFault) = ⊥
EndsUntaken why held held_now (Err Stop.WriteFault) =
    (unopened_end why ≡ Ok Outcome.NoHistory) × TookPrefix held held_now (unopened_line why)
EndsUntaken why held held_now (Err Stop.OutOfMemory) = (why ≢ DeskFault.DiskFault) × (held_now ≡ held)

-- How a generated day ended, by how it went. It wasn't opened only for lack of memory. Its roster is that of the line.
abbrev pub EndsGenerated : ℕ → ℕ → Course → (held held_now : Option (List ℕ)) → Result Outcome Stop → Type 0
EndsGenerated seed asks unopened held held_now result = (result ≡ Err Stop.OutOfMemory) × (held_now ≡ held)
EndsGenerated seed asks (given_up r why) held held_now result =
    IsRosterLine generated_line r × EndsUntaken why held held_now result
EndsGenerated seed asks (served r start told (Some more)) held held_now result = ⊥
EndsGenerated seed asks (served r start told None) held held_now result =
    IsRosterLine generated_line r × EndsTaken r seed asks start told held held_now result
    × TellsTable r seed asks start held held_now result

-- A generated day ended so on a sink and a disk.
pub record GeneratedRuns {D : Type 0} (d : disk.Ghosts D) (seed asks : ℕ) (held held_now : Option (List ℕ)) (old new : D)
    (result : Result Outcome Stop) : Type 0 where
  pub course : Course
  -- what was written, and how it ended, by how the day went
  pub ends : EndsGenerated seed asks course held held_now result
  -- what became of the disk
  pub on_disk : CourseOn d.faults d.reads d.may_leave d.moment d.left_since course old new

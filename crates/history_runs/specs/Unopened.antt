-- How a run ends whose day couldn't be opened, and what it writes then. This project's own.
use Rattle.std.specs.Prelude.{◌≡◌, ◌⊎◌, ℕ, ◌≤◌, List, [], Option, Result, Ok, Err, length}
use Rattle.adx_desk.specs.declared.fault.DeskFault.{DeskFault}
use Rattle.adx_io.specs.declared.line_buffer.TheConstants.{CHUNK}
use Rattle.adx_io.specs.declared.stop.Stop.{Stop}
use Rattle.command_runs.specs.Meanings.{Meaning, PutsEnd}
use Rattle.command_runs.specs.declared.outcome.Outcome.{Outcome}
use Rattle.history_runs.specs.Output.{unopened_line}

-- how a run ends whose day wasn't opened for this cause
abbrev pub unopened_end : DeskFault → Result Outcome Stop
unopened_end DeskFault.DiskFault = Ok Outcome.DiskFault
unopened_end (DeskFault.JournalFull size) = Ok Outcome.NoHistory
unopened_end (DeskFault.BadEntry at) = Ok Outcome.NoHistory
unopened_end (DeskFault.OtherRoster kept) = Ok Outcome.NoHistory
unopened_end (DeskFault.NotAJournal at) = Ok Outcome.NoHistory
unopened_end (DeskFault.BadLength at) = Ok Outcome.NoHistory
unopened_end DeskFault.OutOfMemory = Err Stop.OutOfMemory

-- the run may end as was wanted, or cut short by the sink or for want of memory
abbrev pub MayEndAs : Result Outcome Stop → Result Outcome Stop → Type 0
MayEndAs wanted result = (result ≡ wanted) ⊎ ((result ≡ Err Stop.WriteFault) ⊎ (result ≡ Err Stop.OutOfMemory))

-- how a run ends whose day wasn't opened: by the cause or, where that has a line, while the line is put
abbrev pub GivesUpBy : DeskFault → Result Outcome Stop → Type 0
GivesUpBy DeskFault.DiskFault result = result ≡ Ok Outcome.DiskFault
GivesUpBy (DeskFault.JournalFull size) result = MayEndAs (Ok Outcome.NoHistory) result
GivesUpBy (DeskFault.BadEntry at) result = MayEndAs (Ok Outcome.NoHistory) result
GivesUpBy (DeskFault.OtherRoster kept) result = MayEndAs (Ok Outcome.NoHistory) result
GivesUpBy (DeskFault.NotAJournal at) result = MayEndAs (Ok Outcome.NoHistory) result
GivesUpBy (DeskFault.BadLength at) result = MayEndAs (Ok Outcome.NoHistory) result
GivesUpBy DeskFault.OutOfMemory result = result ≡ Err Stop.OutOfMemory

-- a day that wasn't opened: why is said, and nothing is read
-- Example: a file that is no journal: its line, and the run ends `NoHistory`.
abbrev pub not_opened : DeskFault → Meaning
not_opened why = record {
  ends = λ outcome taken left out. (unopened_end why ≡ Ok outcome) × (length taken ≤ CHUNK) × (out ≡ unopened_line why);
  awaits = λ taken out. ⊥;
  breaks = λ taken left put last. (length taken ≤ CHUNK) × (put ≡ []) × ((last ≡ unopened_line why) ⊎ (last ≡ []));
}

-- What `tell_unopened` promises is said in these words.

-- the line of a day that wasn't opened was put, or a prefix of it; or memory was refused, and nothing was
abbrev pub PutsWhy : DeskFault → (held held_now : Option (List ℕ)) → Result Outcome Stop → Type 0
PutsWhy why held held_now result =
    PutsEnd Outcome.NoHistory held held_now (unopened_line why) result ⊎ ((held_now ≡ held) × (result ≡ Err Stop.OutOfMemory))

-- an opening that gave up: its line is put, or nothing where it has none
abbrev pub PutsUnopened : DeskFault → (held held_now : Option (List ℕ)) → Result Outcome Stop → Type 0
PutsUnopened DeskFault.DiskFault held held_now result = (held_now ≡ held) × (result ≡ Ok Outcome.DiskFault)
PutsUnopened (DeskFault.JournalFull size) held held_now result = PutsWhy (DeskFault.JournalFull size) held held_now result
PutsUnopened (DeskFault.BadEntry at) held held_now result = PutsWhy (DeskFault.BadEntry at) held held_now result
PutsUnopened (DeskFault.OtherRoster kept) held held_now result = PutsWhy (DeskFault.OtherRoster kept) held held_now result
PutsUnopened (DeskFault.NotAJournal at) held held_now result = PutsWhy (DeskFault.NotAJournal at) held held_now result
PutsUnopened (DeskFault.BadLength at) held held_now result = PutsWhy (DeskFault.BadLength at) held held_now result
PutsUnopened DeskFault.OutOfMemory held held_now result = (held_now ≡ held) × (result ≡ Err Stop.OutOfMemory)

-- Private, cited by the day with its journal alone: its value, and what its fields keep.
use Rattle.std.specs.Prelude.{◌≡◌, false, ℕ, ◌+◌, ◌≤◌, List, [], ◌∷◌, ◌++◌, Some, Result, Ok, Err}
use Rattle.day_journal.specs.Faults.{greatest_size}
use Rattle.day_journal.specs.Tails.{JournalState, size_of}
use Rattle.day_rules.specs.declared.entry.Entry.{Entry}
use Rattle.day_rules.specs.Books.{awards_of}
use Rattle.day_rules.specs.DayState.{DayState, IsDay, Room}
use Rattle.adx_desk.specs.Desks.{AtOpening, DeskState, OnDisk}
use Rattle.adx_desk.specs.declared.fault.DeskFault.{DeskFault}
use Rattle.adx_desk.specs.Endings.{FailsDisk, NoFault, PassesJournal, size_with}
use Rattle.day_machine.specs.Held.{held, open_count}
use Rattle.adx_desk.specs.Histories.{longest_size}

-- a desk but for its disk, and what there is memory for
pub record JournaledState : Type 0 where
  pub desk : DeskState
  pub room : Room

-- the day of it
abbrev pub day_in : JournaledState → DayState
day_in s = record { terms = s.desk.terms.day; history = s.desk.history; room = s.room }

-- what the desk alone knows
abbrev pub unopened : AtOpening
unopened = record { count = 0; tells = false }

-- It with a disk. What is known from the opening is the desk's.
abbrev pub on_disk : {D : Type 0} → JournaledState → D → OnDisk D
on_disk s disk = record { desk = s.desk; disk = disk; since = unopened }

-- The history is legal, its open awards are counted, and the journal has room for what is held. It is no longer than
-- that of a record for each entry after the digest.
pub record AreJournaled (day : DayState) (digest : List ℕ) (journal : JournalState) (open_awards : ℕ) : Type 0 where
  pub legal : IsDay day.terms day.history
  pub open_are : open_awards ≡ open_count (awards_of day.history)
  pub room : size_of journal + held journal.format day.history ≤ greatest_size
  pub short : size_of journal ≤ longest_size (record { day = day.terms; digest = digest }) day.history

-- what is held beside the record of an entry: for an ask and a change of a budget what is held after it; the record of
-- a notice or a moment takes of what is held already
abbrev pub beside : ℕ → List Entry → Entry → ℕ
beside format history (Entry.Ask a) = held format (history ++ Entry.Ask a ∷ [])
beside format history (Entry.Win n) = 0
beside format history (Entry.Bill n) = 0
beside format history (Entry.Loss n) = 0
beside format history (Entry.Expire now) = 0
beside format history (Entry.Budget campaign change budget) = held format (history ++ Entry.Budget campaign change budget ∷ [])

-- How the record of an entry ends: full exactly where it passes the journal, and else done or a fault of the disk.
abbrev pub EndsRecord : {T : Type 0} → (before now : ℕ) (old new : DeskState) (e : Entry) → Result T DeskFault → Type 0
EndsRecord before now old new e (Ok done) = (size_with old e ≤ greatest_size) × NoFault before now old new
EndsRecord before now old new e (Err DeskFault.DiskFault) = (size_with old e ≤ greatest_size) × FailsDisk before now old new
EndsRecord before now old new e (Err (DeskFault.JournalFull size)) = PassesJournal old size (Some e) × NoFault before now old new
EndsRecord before now old new e (Err (DeskFault.BadEntry at)) = ⊥
EndsRecord before now old new e (Err (DeskFault.OtherRoster kept)) = ⊥
EndsRecord before now old new e (Err (DeskFault.NotAJournal at)) = ⊥
EndsRecord before now old new e (Err (DeskFault.BadLength at)) = ⊥
EndsRecord before now old new e (Err DeskFault.OutOfMemory) = ⊥

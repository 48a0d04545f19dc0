-- How the calls of a desk end, and why. This project's own.
use Rattle.std.specs.Prelude.{◌≡◌, ◌⊎◌, ℕ, ◌+◌, ◌<◌, ◌≤◌, min, [], ◌∷◌, ◌++◌, Option, Some, None, Result, Ok, Err}
use Rattle.adx_io.specs.Fakes.{counted}
use Rattle.adx_io.specs.Streams.{Rises, last_count}
use Rattle.day_journal.specs.Faults.{greatest_size}
use Rattle.day_journal.specs.Tails.{size_of}
use Rattle.day_rules.specs.declared.entry.Entry.{Entry}
use Rattle.adx_desk.specs.declared.fault.DeskFault.{DeskFault}
use Rattle.adx_desk.specs.Desks.{DeskState}
use Rattle.day_machine.specs.Held.{held, record_size}

-- what the journal comes to with the record of an entry and with all that is held then
abbrev pub size_with : DeskState → Entry → ℕ
size_with desk e =
    size_of desk.journal + record_size desk.journal.format e + held desk.journal.format (desk.history ++ e ∷ [])

-- there is room for the entry that is added, if one is
abbrev pub FitsJournal : DeskState → Option Entry → Type 0
FitsJournal desk None = Unit {0}
FitsJournal desk (Some e) = size_with desk e ≤ greatest_size

-- there is none, and the size answered is what it would come to
abbrev pub PassesJournal : DeskState → ℕ → Option Entry → Type 0
PassesJournal desk told None = ⊥
PassesJournal desk told (Some e) = (greatest_size < size_with desk e) × (told ≡ min (size_with desk e) last_count)

-- The disk failed in this call, and the desk counted it: its own count stays at its last value.
pub record FailsDisk (before now : ℕ) (old new : DeskState) : Type 0 where
  pub later : before ≤ now
  pub risen : Rises before now
  pub counted : new.faults ≡ counted old.faults

-- neither count moved
pub record NoFault (before now : ℕ) (old new : DeskState) : Type 0 where
  pub disk : now ≡ before
  pub desk : new.faults ≡ old.faults

-- so many faults are at most what the disk's count rose by since it was this, unless it is at its last value
abbrev pub IsWithinRise : (since faults now : ℕ) → Type 0
IsWithinRise since faults now = (since + faults ≤ now) ⊎ (last_count ≤ now)

-- How a notice or a tick ends, by the disk's count before and now: its only fault is the disk's.
abbrev pub EndsNotice : {T : Type 0} → (before now : ℕ) (old new : DeskState) → Result T DeskFault → Type 0
EndsNotice before now old new (Ok answer) = NoFault before now old new
EndsNotice before now old new (Err DeskFault.DiskFault) = FailsDisk before now old new
EndsNotice before now old new (Err (DeskFault.JournalFull size)) = ⊥
EndsNotice before now old new (Err (DeskFault.BadEntry at)) = ⊥
EndsNotice before now old new (Err (DeskFault.OtherRoster kept)) = ⊥
EndsNotice before now old new (Err (DeskFault.NotAJournal at)) = ⊥
EndsNotice before now old new (Err (DeskFault.BadLength at)) = ⊥
EndsNotice before now old new (Err DeskFault.OutOfMemory) = ⊥

-- How an ask or a change of a budget ends whose reply has that entry, if any: the journal is full exactly where the record passes it, and
-- memory may be wanting before anything was done.
abbrev pub EndsAsk : {T : Type 0} → (before now : ℕ) (old new : DeskState) (entry : Option Entry) → Result T DeskFault → Type 0
EndsAsk before now old new entry (Ok done) = FitsJournal old entry × NoFault before now old new
EndsAsk before now old new entry (Err DeskFault.DiskFault) = FitsJournal old entry × FailsDisk before now old new
EndsAsk before now old new entry (Err (DeskFault.JournalFull size)) = PassesJournal old size entry × NoFault before now old new
EndsAsk before now old new entry (Err (DeskFault.BadEntry at)) = ⊥
EndsAsk before now old new entry (Err (DeskFault.OtherRoster kept)) = ⊥
EndsAsk before now old new entry (Err (DeskFault.NotAJournal at)) = ⊥
EndsAsk before now old new entry (Err (DeskFault.BadLength at)) = ⊥
EndsAsk before now old new entry (Err DeskFault.OutOfMemory) = NoFault before now old new

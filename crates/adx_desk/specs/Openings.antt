-- What opening a desk makes of a file: its history, or the first fault in the order of its bytes. This project's own.
use Rattle.std.specs.Prelude.{◌≡◌, ◌≢◌, ◌⊎◌, ℕ, ◌+◌, ◌<◌, ◌≤◌, ◌==◌, min, List, [], ◌∷◌, ◌++◌, length, All, Option, Some, Result, Ok, Err, if◌then◌else◌}
use Rattle.sha2.specs.Sha256.{sha256}
use Rattle.adx_io.specs.Streams.{Rises, last_count}
use Rattle.day_journal.specs.declared.fault.AppendFault.{AppendFault}
use Rattle.day_journal.specs.declared.fault.OpeningFault.{OpeningFault}
use Rattle.day_journal.specs.Faults.{greatest_size}
use Rattle.day_journal.specs.Places.{HasBadLength, HasNoHead, IsFormat, IsPayload, StandsFor, opened}
use Rattle.day_rules.specs.declared.entry.Entry.{Entry}
use Rattle.day_rules.specs.Legal.{IsLegal, MayFollow}
use Rattle.day_entries.specs.Entries.{BeginsWith, Fits, entries_bytes}
use Rattle.adx_desk.specs.declared.fault.DeskFault.{DeskFault}
use Rattle.day_machine.specs.Held.{held}
use Rattle.adx_desk.specs.Histories.{AreRecords, DeskTerms, Spells, StandsSame}

-- what is said of a first payload that isn't the roster's digest
abbrev pub told_of : List ℕ → List ℕ
told_of payload = if length payload == 32 then payload else sha256 payload

-- the first payload isn't the roster's digest
pub record HasOtherRoster (digest file kept : List ℕ) : Type 0 where
  pub format : ℕ
  pub known : IsFormat format
  pub first : List ℕ
  pub is_payload : IsPayload first
  pub rest : List ℕ
  pub split : file ≡ opened format (first ∷ []) ++ rest
  pub other : first ≢ digest
  pub told : kept ≡ told_of first

-- no entry is at the front of the bytes that may follow the history
abbrev pub HasNoNext : ℕ → DeskTerms → List Entry → List ℕ → Type 0
HasNoNext format terms history bytes = (e : Entry) (n : ℕ) → BeginsWith format bytes e n → MayFollow terms.day history e → ⊥

-- After whole records and some entries of the next payload, each legal in its turn, there are bytes of that payload
-- that begin with no entry that may follow.
pub record HasBadEntry (terms : DeskTerms) (file : List ℕ) (at : ℕ) : Type 0 where
  pub format : ℕ
  pub known : IsFormat format
  pub payloads : List (List ℕ)
  pub earlier : List Entry
  pub records : AreRecords format payloads earlier
  pub payload : List ℕ
  pub each : All IsPayload (terms.digest ∷ payloads ++ payload ∷ [])
  pub rest : List ℕ
  pub split : file ≡ opened format (terms.digest ∷ payloads ++ payload ∷ []) ++ rest
  pub front : List Entry
  pub fits : All (Fits format) front
  pub bytes : List ℕ
  pub behind : payload ≡ entries_bytes format front ++ bytes
  pub some : 0 < length bytes
  pub legal : IsLegal terms.day (earlier ++ front)
  pub none : HasNoNext format terms (earlier ++ front) bytes
  pub there : at ≡ length (earlier ++ front)

-- after payloads that spell a legal history there is a place that is none
pub record HasBadRecord (terms : DeskTerms) (file : List ℕ) (at : ℕ) : Type 0 where
  pub bad : HasBadLength file at
  pub history : List Entry
  pub spells : Spells bad.format terms.digest bad.payloads history
  pub legal : IsLegal terms.day history

-- the file represents a legal history, but for its room
pub record HasNoRoom (terms : DeskTerms) (file : List ℕ) (size : ℕ) : Type 0 where
  pub format : ℕ
  pub payloads : List (List ℕ)
  pub stands : StandsFor format file payloads
  pub history : List Entry
  pub spells : Spells format terms.digest payloads history
  pub legal : IsLegal terms.day history
  pub passes : greatest_size < length (opened format payloads) + 1 + held format history
  pub told : size ≡ min (length (opened format payloads) + 1 + held format history) last_count

-- what a refusal says of the file
abbrev pub RefusesDesk : DeskTerms → List ℕ → DeskFault → Type 0
RefusesDesk terms file DeskFault.DiskFault = Unit {0}
RefusesDesk terms file (DeskFault.JournalFull size) = HasNoRoom terms file size
RefusesDesk terms file (DeskFault.BadEntry at) = HasBadEntry terms file at
RefusesDesk terms file (DeskFault.OtherRoster kept) = HasOtherRoster terms.digest file kept
RefusesDesk terms file (DeskFault.NotAJournal at) = HasNoHead file at
RefusesDesk terms file (DeskFault.BadLength at) = HasBadRecord terms file at
RefusesDesk terms file DeskFault.OutOfMemory = Unit {0}

-- a fault of the file, and not of the disk or of memory
abbrev pub IsRefusal : DeskFault → Type 0
IsRefusal DeskFault.DiskFault = ⊥
IsRefusal (DeskFault.JournalFull size) = Unit {0}
IsRefusal (DeskFault.BadEntry at) = Unit {0}
IsRefusal (DeskFault.OtherRoster kept) = Unit {0}
IsRefusal (DeskFault.NotAJournal at) = Unit {0}
IsRefusal (DeskFault.BadLength at) = Unit {0}
IsRefusal DeskFault.OutOfMemory = ⊥

-- why an opening gave up, by the disk's count: a disk fault only where it rose
abbrev pub HasDiskCause : (before now : ℕ) → DeskFault → Type 0
HasDiskCause before now DeskFault.DiskFault = (before ≤ now) × Rises before now
HasDiskCause before now (DeskFault.JournalFull size) = now ≡ before
HasDiskCause before now (DeskFault.BadEntry at) = now ≡ before
HasDiskCause before now (DeskFault.OtherRoster kept) = now ≡ before
HasDiskCause before now (DeskFault.NotAJournal at) = now ≡ before
HasDiskCause before now (DeskFault.BadLength at) = now ≡ before
HasDiskCause before now DeskFault.OutOfMemory = now ≡ before

-- how an opening, or a step of it, ends by the disk's count
abbrev pub EndsByDisk : {T : Type 0} → (before now : ℕ) → Result T DeskFault → Type 0
EndsByDisk before now (Ok answer) = now ≡ before
EndsByDisk before now (Err why) = HasDiskCause before now why

-- what a desk answers where the opening of its journal answers this
abbrev pub fault_of : OpeningFault → DeskFault
fault_of OpeningFault.DiskFault = DeskFault.DiskFault
fault_of (OpeningFault.NotAJournal at) = DeskFault.NotAJournal at
fault_of (OpeningFault.BadLength at) = DeskFault.BadLength at
fault_of OpeningFault.OutOfMemory = DeskFault.OutOfMemory

-- and where an append does
abbrev pub append_fault_of : AppendFault → DeskFault
append_fault_of AppendFault.DiskFault = DeskFault.DiskFault
append_fault_of (AppendFault.Full size) = DeskFault.JournalFull size

-- an image from before, what was read, or a file that represents the history that it represented
abbrev pub StandsAsRead : DeskTerms → (List ℕ → Type 0) → Option (List ℕ) → List ℕ → Type 0
StandsAsRead terms images reads file = images file ⊎ ((before : List ℕ) × (reads ≡ Some before) × StandsSame terms before file)

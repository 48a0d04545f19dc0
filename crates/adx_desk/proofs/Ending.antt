-- How a call ends by how its record did.
use Rattle.std.proofs.Common.{ℕ, ◌≤◌, Some, arith}
use Rattle.std.specs.Prelude.{Err}
use Rattle.day_journal.specs.Faults.{greatest_size}
use Rattle.day_rules.specs.declared.entry.Entry.{Entry}
use Rattle.adx_desk.specs.declared.fault.DeskFault.{DeskFault}
use Rattle.adx_desk.specs.Desks.{DeskState}
use Rattle.adx_desk.specs.Endings.{EndsAsk, EndsNotice, size_with}
use Rattle.adx_desk.specs.Journaled.{EndsRecord}

-- a fault of an ask
pub ends_ask : (T U : Type 0) (before now : ℕ) (old new : DeskState) (e : Entry) (why : DeskFault) → EndsRecord {T = T} before now old new e (Err why) → EndsAsk {T = U} before now old new (Some e) (Err why)
ends_ask T U before now old new e DeskFault.DiskFault ends = ends
ends_ask T U before now old new e (DeskFault.JournalFull size) ends = ends
ends_ask T U before now old new e (DeskFault.BadEntry at) ends = ends
ends_ask T U before now old new e (DeskFault.OtherRoster kept) ends = ends
ends_ask T U before now old new e (DeskFault.NotAJournal at) ends = ends
ends_ask T U before now old new e (DeskFault.BadLength at) ends = ends
ends_ask T U before now old new e DeskFault.OutOfMemory ends = absurd ends

-- a fault of a notice or a tick, for which there is always room
pub ends_notice : (T U : Type 0) (before now : ℕ) (old new : DeskState) (e : Entry) (why : DeskFault) → size_with old e ≤ greatest_size → EndsRecord {T = T} before now old new e (Err why) → EndsNotice {T = U} before now old new (Err why)
ends_notice T U before now old new e DeskFault.DiskFault fits ends = ends.1
ends_notice T U before now old new e (DeskFault.JournalFull size) fits ends = let passes = ends.0.0 in absurd (omega arith)
ends_notice T U before now old new e (DeskFault.BadEntry at) fits ends = ends
ends_notice T U before now old new e (DeskFault.OtherRoster kept) fits ends = ends
ends_notice T U before now old new e (DeskFault.NotAJournal at) fits ends = ends
ends_notice T U before now old new e (DeskFault.BadLength at) fits ends = ends
ends_notice T U before now old new e DeskFault.OutOfMemory fits ends = ends

-- The faults of a desk that a line says. This project's own.
use Rattle.std.specs.Prelude.{Option, Some, None}
use Rattle.answer_lines.specs.declared.faults.Fault.{Fault}
use Rattle.adx_desk.specs.declared.fault.DeskFault.{DeskFault}

-- the fault that the line of a call says: that of the disk, and a journal without room
abbrev pub told_as : DeskFault → Option Fault
told_as DeskFault.DiskFault = Some Fault.Disk
told_as (DeskFault.JournalFull size) = Some (Fault.JournalFull size)
told_as (DeskFault.BadEntry at) = None
told_as (DeskFault.OtherRoster kept) = None
told_as (DeskFault.NotAJournal at) = None
told_as (DeskFault.BadLength at) = None
told_as DeskFault.OutOfMemory = None

-- there is a line for it
abbrev pub HasLine : DeskFault → Type 0
HasLine DeskFault.DiskFault = Unit {0}
HasLine (DeskFault.JournalFull size) = Unit {0}
HasLine (DeskFault.BadEntry at) = ⊥
HasLine (DeskFault.OtherRoster kept) = ⊥
HasLine (DeskFault.NotAJournal at) = ⊥
HasLine (DeskFault.BadLength at) = ⊥
HasLine DeskFault.OutOfMemory = ⊥

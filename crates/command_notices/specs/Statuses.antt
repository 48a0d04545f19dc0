-- The ends and the exit statuses of a run of posting. This project's own.
use Rattle.std.specs.Prelude.{ℕ}
use Rattle.adx_desk.specs.declared.fault.DeskFault.{DeskFault}
use Rattle.command_notices.specs.declared.ending.PostEnd.{PostEnd}

-- how a run ends whose day wasn't opened for this cause
abbrev pub unopened_end : DeskFault → PostEnd
unopened_end DeskFault.DiskFault = PostEnd.DiskFault
unopened_end (DeskFault.JournalFull size) = PostEnd.NoHistory (DeskFault.JournalFull size)
unopened_end (DeskFault.BadEntry at) = PostEnd.NoHistory (DeskFault.BadEntry at)
unopened_end (DeskFault.OtherRoster kept) = PostEnd.NoHistory (DeskFault.OtherRoster kept)
unopened_end (DeskFault.NotAJournal at) = PostEnd.NoHistory (DeskFault.NotAJournal at)
unopened_end (DeskFault.BadLength at) = PostEnd.NoHistory (DeskFault.BadLength at)
unopened_end DeskFault.OutOfMemory = PostEnd.OutOfMemory

-- the exit status of a run that ended so
abbrev pub status_by : PostEnd → ℕ
status_by PostEnd.Delivered = 0
status_by PostEnd.Pending = 11
status_by (PostEnd.Refused why) = 3
status_by PostEnd.DiskFault = 6
status_by (PostEnd.NoHistory why) = 7
status_by PostEnd.OutOfMemory = 12

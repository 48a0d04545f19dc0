-- The file that a disk over a real file stands on, and its count of faults. This project's own.
use Rattle.std.specs.Prelude.{ℕ}
use Rattle.day_journal.specs.declared.file_disk.FileDisk.{FileDisk}

-- the file that a disk writes
abbrev pub file_of : {F : Type 0} → FileDisk F → F
file_of d = d.file

-- how often its calls have failed
abbrev pub disk_faults : {F : Type 0} → FileDisk F → ℕ
disk_faults d = d.faults

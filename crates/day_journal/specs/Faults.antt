-- When a call of the journal gives up. This project's own.
use Rattle.std.specs.Prelude.{◌≡◌, ℕ, ◌<◌, ◌≤◌, min, List, Result, Ok, Err, ⊤}
use Rattle.adx_io.specs.Streams.{Rises, last_count}
use Rattle.day_journal.specs.declared.fault.AppendFault.{AppendFault}
use Rattle.day_journal.specs.declared.fault.OpeningFault.{OpeningFault}
use Rattle.day_journal.specs.declared.journal.TheConstants.{GREATEST_SIZE}
use Rattle.day_journal.specs.Places.{HasBadLength, HasNoHead}

-- the greatest size of a journal with what is held for later records, in bytes
abbrev pub greatest_size : ℕ
greatest_size = GREATEST_SIZE

-- How an append ends: full exactly where the size would pass the greatest, which it then answers; and
-- with a disk fault only where the disk's count rose.
abbrev pub EndsAppend : (before now size : ℕ) → Result Unit AppendFault → Type 0
EndsAppend before now size (Ok done) = (size ≤ greatest_size) × (now ≡ before)
EndsAppend before now size (Err AppendFault.DiskFault) = (size ≤ greatest_size) × (before ≤ now) × Rises before now
EndsAppend before now size (Err (AppendFault.Full told)) = (greatest_size < size) × (told ≡ min size last_count) × (now ≡ before)

-- How an opening, or a step of it, ends by the disk's count: a disk fault only where it rose.
abbrev pub EndsOpening : {T : Type 0} → (before now : ℕ) → Result T OpeningFault → Type 0
EndsOpening before now (Ok answer) = now ≡ before
EndsOpening before now (Err OpeningFault.DiskFault) = (before ≤ now) × Rises before now
EndsOpening before now (Err (OpeningFault.NotAJournal at)) = now ≡ before
EndsOpening before now (Err (OpeningFault.BadLength at)) = now ≡ before
EndsOpening before now (Err OpeningFault.OutOfMemory) = now ≡ before

-- what a refusal says of the file: no fault but these two
abbrev pub Refuses : List ℕ → OpeningFault → Type 0
Refuses file (OpeningFault.NotAJournal at) = HasNoHead file at
Refuses file (OpeningFault.BadLength at) = HasBadLength file at
Refuses file OpeningFault.DiskFault = ⊤
Refuses file OpeningFault.OutOfMemory = ⊤

-- A disk in memory, as the changes since it was made. This project's own.
use Rattle.std.specs.Prelude.{◌≡◌, ◌⊎◌, ℕ, ◌+◌, ◌≤◌, List, [], ◌∷◌, length, get_or, take, replicate, Contains, Bool, false, Option, Some, None, Result, Ok, Err, if◌then◌else◌}
use Rattle.adx_io.specs.declared.failed.Failed.{Failed}
use Rattle.day_journal.specs.declared.memory_disk.Change.{Change}
use Rattle.adx_io.specs.Fakes.{counted}
use Rattle.day_journal.specs.Disks.{Torn, written}

-- what a read gives after these changes of a disk that read so
abbrev pub reading : List ℕ → List Change → List ℕ
reading now [] = now
reading now (Change.Write at piece done ∷ changes) = reading (if done then written at piece now else now) changes
reading now (Change.Sync ∷ changes) = reading now changes

-- what a crash may leave after these changes of a disk that read so and had these images
abbrev pub MayLeave : List ℕ → (List ℕ → Type 0) → List Change → List ℕ → Type 0
MayLeave now images [] c = images c
MayLeave now images (Change.Write at piece done ∷ changes) c =
    MayLeave (if done then written at piece now else now) (λ c. (d : List ℕ) × images d × Torn at (length piece) d c) changes c
MayLeave now images (Change.Sync ∷ changes) c = MayLeave now (λ c. c ≡ now) changes c

-- the same of a disk that was made with these bytes
abbrev pub IsImage : List ℕ → List Change → List ℕ → Type 0
IsImage start changes c = MayLeave start (λ c. c ≡ start) changes c

-- what a crash after some number of the changes, from t on, might have left
abbrev pub LeftSince : List ℕ → List Change → ℕ → List ℕ → Type 0
LeftSince start changes t c = (k : ℕ) × (t ≤ k) × (k ≤ length changes) × IsImage start (take k changes) c

-- which calls of a disk fail, from 0, from which on all do, and how many calls and faults there were
pub record DiskHabits : Type 0 where
  pub fails : List ℕ
  pub stop : Option ℕ
  pub calls : ℕ
  pub faults : ℕ

pub record MemoryDiskState : Type 0 where
  pub start : List ℕ
  pub changes : List Change
  pub habits : DiskHabits

-- what a read of a disk in memory gives
abbrev pub reads_of : MemoryDiskState → List ℕ
reads_of d = reading d.start d.changes

-- the call from which on all fail has come
abbrev pub HasCome : Option ℕ → ℕ → Type 0
HasCome None call = ⊥
HasCome (Some stop) call = stop ≤ call

-- what a crash at this moment may leave of a disk in memory
abbrev pub images_of : MemoryDiskState → List ℕ → Type 0
images_of d = IsImage d.start d.changes

-- what a crash since that moment might have left
abbrev pub left_of : MemoryDiskState → ℕ → List ℕ → Type 0
left_of d = LeftSince d.start d.changes

-- the moment: how many changes there were
abbrev pub moment_of : MemoryDiskState → ℕ
moment_of d = length d.changes

-- the next call fails: it stands in the list, or from some call on all do
abbrev pub FailsNext : DiskHabits → Type 0
FailsNext h = Contains h.fails h.calls ⊎ HasCome h.stop h.calls

-- one call more, and one fault more where it failed
abbrev pub habits_after : {T : Type 0} → Result T Failed → DiskHabits → DiskHabits
habits_after (Ok answer) h = record h { calls = counted h.calls }
habits_after (Err failed) h = record h { calls = counted h.calls; faults = counted h.faults }

-- A picked image of a disk that reads so and has that image, after these changes. Of the writes since
-- the last sync the one with a number whose pick is true is there; of any other the range holds the
-- fill.
abbrev pub picked : List Bool → ℕ → ℕ → List ℕ → List ℕ → List Change → List ℕ
picked picks fill number now image [] = image
picked picks fill number now image (Change.Write at piece done ∷ changes) =
    picked picks fill (number + 1) (if done then written at piece now else now)
    (written at (if get_or picks number false then piece else replicate (length piece) fill) image) changes
picked picks fill number now image (Change.Sync ∷ changes) = picked picks fill 0 now now changes

-- the picked image of a disk in memory
abbrev pub image_of : List Bool → ℕ → MemoryDiskState → List ℕ
image_of picks fill d = picked picks fill 0 d.start d.start d.changes

-- a disk of these bytes whose calls don't fail
abbrev pub new_disk : List ℕ → MemoryDiskState
new_disk bytes = record { start = bytes; changes = []; habits = record { fails = []; stop = None; calls = 0; faults = 0 } }

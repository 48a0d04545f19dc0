-- What the disk keeps of a day whose notices may be written together, at each moment and at the end. This project's own.
use Rattle.std.specs.Prelude.{◌≡◌, ◌⊎◌, ℕ, List, [], length, Option, Some}
use Rattle.day_journal.specs.Disks.{Each, LeavesOnly}
use Rattle.adx_desk.specs.Histories.{DeskTerms, IsHistoryOf, WithOrWithout}
use Rattle.adx_desk.specs.Openings.{StandsAsRead}
use Rattle.day_rules.specs.declared.entry.Entry.{Entry}
use Rattle.day_rules.specs.Runs.{AreTurns}
use Rattle.adx_desk.specs.Records.{CountsAmong, IsLeftInDoubt, StandsInRunFrom}
use Rattle.day_rules.specs.RunBooks.{HasBooks}
use Rattle.adx_desk.specs.Meanings.{Told, turns_of}
use Rattle.adx_desk.specs.OnDisk.{FullEach, history_after}

-- After these calls the disk keeps their history: each image represents it, or it and one record in doubt, of
-- entries whose calls a fault of the disk gave up.
pub record KeepsHistory (images : List ℕ → Type 0) (terms : DeskTerms) (start : List Entry) (told : List Told) : Type 0 where
  pub tail : List Entry
  pub doubted : (tail ≡ []) ⊎ IsLeftInDoubt terms.day start told tail
  pub each : Each images (WithOrWithout terms (history_after terms.day start told) tail)

-- what a crash at some moment of a day leaves: an image from before it, or a file that represents what was read; or one of
-- its run, alone or with a record of the run at that history
abbrev pub StandsAmong : DeskTerms → (List ℕ → Type 0) → Option (List ℕ) → List Entry → List Told → List ℕ → Type 0
StandsAmong terms images reads start told file = StandsAsRead terms images reads file ⊎ StandsInRunFrom terms start [] told file

-- A day that was served on a disk, from a history, with these calls, whose notices may have been written together.
pub record ServesTogether {D : Type 0} (faults : D → ℕ) (reads : D → Option (List ℕ)) (may_leave : D → List ℕ → Type 0)
    (moment : D → ℕ) (left_since : D → ℕ → List ℕ → Type 0) (terms : DeskTerms) (start : List Entry) (told : List Told)
    (old new : D) : Type 0 where
  -- It began with the history that the file represented, where the disk reports what it reads.
  pub begins : (file : List ℕ) → reads old ≡ Some file → IsHistoryOf terms file start
  -- The calls are some that a day takes, and their books are those of the headline.
  pub taken : AreTurns (length terms.day.budgets) (turns_of told)
  pub books : HasBooks terms.day start (turns_of told) (history_after terms.day start told)
  -- The disk's count rose in each call that its fault gave up, and else only by a record of notices that waited together,
  pub counted : CountsAmong (faults old) told (faults new)
  -- and a call was answered that the journal is full only where it may be.
  pub full : FullEach terms start told
  -- Where the disk reports what it reads, it keeps the history of the run now,
  pub keeps : (file : List ℕ) → reads old ≡ Some file → KeepsHistory (may_leave new) terms start told
  -- and a crash at any moment leaves an image from before, the history that was read, or one of the run, with at most one
  -- record.
  pub any_moment : (file : List ℕ) → reads old ≡ Some file
      → LeavesOnly moment left_since old new (StandsAmong terms (may_leave old) (reads old) start told)

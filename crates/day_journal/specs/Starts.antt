-- What a file is before its payloads are read. This project's own.
use Rattle.std.specs.Prelude.{◌≡◌, ◌⊎◌, ℕ, ◌≤◌, List, [], length, take, Option, Some}
use Rattle.day_journal.specs.Disks.{AsRead, LeavesOnly, Within}
use Rattle.day_journal.specs.Places.{IsCleared, IsFormat, IsMarked, IsUnfinished, HasNoHead, StandsFor, head, new_file}
use Rattle.day_journal.specs.declared.start.Start.{Start}

-- what a file with these first bytes is
abbrev pub IsStart : List ℕ → Start → Type 0
IsStart first Start.Cleared = IsCleared first
IsStart first Start.Uncleared = (length first ≤ 1) ⊎ IsMarked first
IsStart first (Start.Journal format) = IsFormat format × (take 9 first ≡ head format)
IsStart first (Start.Other at) = HasNoHead first at

-- calls after which a crash leaves no more than before
pub record LeavesNoMore {D : Type 0} (may_leave : D → List ℕ → Type 0) (moment : D → ℕ) (left_since : D → ℕ → List ℕ → Type 0) (old new : D) : Type 0 where
  pub crash : Within (may_leave old) (may_leave new)
  pub moments : LeavesOnly moment left_since old new (may_leave old)

-- a file represents no payload, in any format
abbrev pub StandsNew : List ℕ → Type 0
StandsNew file = (format : ℕ) → StandsFor format file []

-- a file is another one, or both represent no payload
abbrev pub IsAsBefore : (before after : List ℕ) → Type 0
IsAsBefore before after = (after ≡ before) ⊎ (StandsNew before × StandsNew after)

-- an image from before; or what was read; or, where that represented no payload, a file that represents none
abbrev pub StandsAsRead : (List ℕ → Type 0) → Option (List ℕ) → List ℕ → Type 0
StandsAsRead images reads file = images file ⊎ ((before : List ℕ) × (reads ≡ Some before) × IsAsBefore before file)

-- there is an image
pub record HasSome (images : List ℕ → Type 0) : Type 0 where
  pub image : List ℕ
  pub there : images image

-- what was looked at is durable, and is what was answered
pub record Looked (size : ℕ) (start : Start) (reads : Option (List ℕ)) (images : List ℕ → Type 0) : Type 0 where
  pub durable : AsRead reads images
  pub found : (file : List ℕ) → reads ≡ Some file → (size ≡ length file) × IsStart (take 11 file) start

-- a file of this length that begins with the head of a journal of this format
pub record BeginsJournal (format size : ℕ) (file : List ℕ) : Type 0 where
  pub known : IsFormat format
  pub length_is : size ≡ length file
  pub front : take 9 (take 11 file) ≡ head format

-- a read gives the file as before, or the file was unfinished and a read gives a new journal
abbrev pub KeptOrMade : List ℕ → Option (List ℕ) → Type 0
KeptOrMade file now = (now ≡ Some file) ⊎ (IsUnfinished file × (now ≡ Some new_file))

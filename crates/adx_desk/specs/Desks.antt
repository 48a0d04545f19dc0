-- What a contract sees of a desk, and what its disk keeps of the history. This project's own.
use Rattle.std.specs.Prelude.{◌≡◌, ℕ, ◌≤◌, Bool, List, [], ◌∷◌, ◌++◌, length, IsTrue}
use Rattle.day_journal.specs.Disks.{Each}
use Rattle.day_journal.specs.Tails.{JournalState, Keeps}
use Rattle.day_rules.specs.declared.entry.Entry.{Entry}
use Rattle.day_rules.specs.Legal.{IsLegal}
use Rattle.adx_desk.specs.Histories.{AreRecords, DeskTerms, HasRoom, IsRecord, WithOrWithout}
use Rattle.day_entries.specs.Entries.{entries_bytes}

-- a desk but for its disk: what it was opened with, what happened, its open journal, and how many of its calls
-- answered a fault of the disk
pub record DeskState : Type 0 where
  pub terms : DeskTerms
  pub history : List Entry
  pub journal : JournalState
  pub faults : ℕ

-- what is known from a desk's opening: what the disk's count was then, and whether the disk reported what it read
pub record AtOpening : Type 0 where
  pub count : ℕ
  pub tells : Bool

-- a desk and its disk, and what is known from the opening
pub record OnDisk (D : Type 0) : Type 0 where
  pub desk : DeskState
  pub disk : D
  pub since : AtOpening

-- the record that may come after these payloads of the history, in a journal of a format
pub record MayStandBehind (terms : DeskTerms) (format : ℕ) (payloads : List (List ℕ)) (history tail : List Entry) : Type 0 where
  pub is_record : IsRecord format tail
  pub legal : IsLegal terms.day (history ++ tail)
  pub room : HasRoom format (payloads ++ entries_bytes format tail ∷ []) (history ++ tail)

-- The desk keeps its history on a disk with these images: each represents the history or, where a record is in
-- doubt, for the history or it and this tail. A desk that isn't in doubt keeps its history with any tail.
pub record DeskKeeps (images : List ℕ → Type 0) (desk : DeskState) (tail : List Entry) : Type 0 where
  pub rest : List (List ℕ)
  pub kept : Keeps images desk.journal (desk.terms.digest ∷ rest) (entries_bytes desk.journal.format tail)
  pub records : AreRecords desk.journal.format rest desk.history
  pub legal : IsLegal desk.terms.day desk.history
  pub room : HasRoom desk.journal.format (desk.terms.digest ∷ rest) desk.history
  pub doubted : IsTrue desk.journal.in_doubt → MayStandBehind desk.terms desk.journal.format (desk.terms.digest ∷ rest) desk.history tail

-- the desk keeps its history on a disk with these images, with a record of at most 32 entries in doubt or none; none where
-- no call met a fault of the disk
pub record DeskKeepsSome (images : List ℕ → Type 0) (desk : DeskState) : Type 0 where
  pub tail : List Entry
  pub one_record : length tail ≤ 32
  pub keeps : DeskKeeps images desk tail
  pub sure : desk.faults ≡ 0 → DeskKeeps images desk []

-- Each image represents the history, or it and a tail: the entries of one record, at most 32, that may follow it. No
-- record is in doubt where no call met a fault of the disk.
pub record StandsInDoubt (images : List ℕ → Type 0) (terms : DeskTerms) (history : List Entry) (faults : ℕ) : Type 0 where
  pub tail : List Entry
  pub one_record : length tail ≤ 32
  pub legal : IsLegal terms.day (history ++ tail)
  pub sure : faults ≡ 0 → tail ≡ []
  pub each : Each images (WithOrWithout terms history tail)

-- the same of a desk's disk
abbrev pub StandsOnDisk : (List ℕ → Type 0) → DeskState → Type 0
StandsOnDisk images desk = StandsInDoubt images desk.terms desk.history desk.faults

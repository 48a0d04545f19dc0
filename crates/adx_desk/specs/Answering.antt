-- What a call does to a desk, and the calls of a line; and a run of calls on a desk that was opened on a disk. Only private
-- clauses cite this file.
use Rattle.std.specs.Prelude.{◌≡◌, ◌≢◌, ◌⊎◌, ℕ, List, [], ◌∷◌, length, Option, Some, None}
use Rattle.day_journal.specs.Disks.{LeavesOnly}
use Rattle.adx_io.specs.Fakes.{counted}
use Rattle.adx_desk.specs.Desks.{DeskKeeps, OnDisk}
use Rattle.adx_desk.specs.Histories.{DeskTerms, IsHistoryOf, WithAtMostOne}
use Rattle.adx_desk.specs.declared.fault.DeskFault.{DeskFault}
use Rattle.answer_lines.specs.declared.faults.Fault.{Fault}
use Rattle.day_rules.specs.declared.entry.Entry.{Entry}
use Rattle.day_rules.specs.Legal.{IsLegal}
use Rattle.day_rules.specs.Replies.{Call, reply}
use Rattle.day_rules.specs.Runs.{AreTurns, IsCall, after_turn, run}
use Rattle.adx_desk.specs.Courses.{HasDiskFault, HasNoDiskFault}
use Rattle.adx_desk.specs.Meanings.{Told, turn_of, turns_of}
use Rattle.adx_desk.specs.OnDisk.{CountsEach, CountsOne, FullEach, FullOnly, MayBeInDoubt, StandsWithin, record_of}

-- how many of the desk's calls the disk's fault gave up, after one more
abbrev pub faults_after : Option Fault → ℕ → ℕ
faults_after None n = n
faults_after (Some Fault.Disk) n = counted n
faults_after (Some (Fault.JournalFull size)) n = n

-- what may be in doubt after a call, of what was in doubt before it: nothing where an entry was added; else the same,
-- or the call's record in its place where the disk's fault gave it up
abbrev pub MayBeLeft : Option Fault → List Entry → List Entry → List Entry → Type 0
MayBeLeft None [] tail next = next ≡ tail
MayBeLeft None (e ∷ es) tail next = next ≡ []
MayBeLeft (Some Fault.Disk) entries tail next = (next ≡ tail) ⊎ (next ≡ entries)
MayBeLeft (Some (Fault.JournalFull size)) entries tail next = next ≡ tail

-- one call of the desk was answered so
pub record ServesCall {D : Type 0} (faults : D → ℕ) (may_leave : D → List ℕ → Type 0) (moment : D → ℕ)
    (left_since : D → ℕ → List ℕ → Type 0) (old new : OnDisk D) (t : Told) : Type 0 where
  pub taken : IsCall (length old.desk.terms.day.budgets) t.call
  pub terms : new.desk.terms ≡ old.desk.terms
  pub history : new.desk.history ≡ after_turn old.desk.terms.day old.desk.history (turn_of t)
  pub counted : CountsOne (faults old.disk) t.fault (faults new.disk)
  pub known : new.desk.faults ≡ faults_after t.fault old.desk.faults
  pub full : FullOnly old.desk.terms old.desk.history (reply old.desk.terms.day old.desk.history t.call).entry t.fault
  pub any_moment : (tail : List Entry) → DeskKeeps (may_leave old.disk) old.desk tail
      → LeavesOnly moment left_since old.disk new.disk
      (WithAtMostOne old.desk.terms old.desk.history tail (record_of old.desk.terms.day old.desk.history t.call))
  pub keeps : (tail : List Entry) → DeskKeeps (may_leave old.disk) old.desk tail
      → (next : List Entry) × MayBeLeft t.fault (record_of old.desk.terms.day old.desk.history t.call) tail next
      × DeskKeeps (may_leave new.disk) new.desk next

-- memory was refused: the desk is as it was; or the call was taken, and its line not written
abbrev pub LeavesCall : {D : Type 0}
    → (faults : D → ℕ) (may_leave : D → List ℕ → Type 0) (moment : D → ℕ) (left_since : D → ℕ → List ℕ → Type 0)
    (old new : OnDisk D) → Call → Type 0
LeavesCall faults may_leave moment left_since old new call =
    (new ≡ old) ⊎ ((told : Told) × (told.call ≡ call) × ServesCall faults may_leave moment left_since old new told)

-- the calls of one line: none, and the desk is as it was; or one
abbrev pub ServesLine : {D : Type 0}
    → (faults : D → ℕ) (may_leave : D → List ℕ → Type 0) (moment : D → ℕ) (left_since : D → ℕ → List ℕ → Type 0)
    (old new : OnDisk D) → List Told → Type 0
ServesLine faults may_leave moment left_since old new [] = new ≡ old
ServesLine faults may_leave moment left_since old new (t ∷ []) = ServesCall faults may_leave moment left_since old new t
ServesLine faults may_leave moment left_since old new (t ∷ u ∷ rest) = ⊥

-- Some calls were answered on a desk that was opened on this disk with this history.
pub record DeskRuns {D : Type 0} (faults : D → ℕ) (reads : D → Option (List ℕ)) (may_leave : D → List ℕ → Type 0)
    (moment : D → ℕ) (left_since : D → ℕ → List ℕ → Type 0) (terms : DeskTerms) (disk : D) (start : List Entry)
    (told : List Told) (now : OnDisk D) : Type 0 where
  pub same_terms : now.desk.terms ≡ terms
  pub begins : (file : List ℕ) → reads disk ≡ Some file → IsHistoryOf terms file start
  pub legal : IsLegal terms.day start
  pub taken : AreTurns (length terms.day.budgets) (turns_of told)
  pub ran : now.desk.history ≡ run terms.day start (turns_of told)
  pub none : now.desk.faults ≡ 0 → HasNoDiskFault told
  pub some : now.desk.faults ≢ 0 → HasDiskFault told
  pub counted : CountsEach (faults disk) told (faults now.disk)
  pub full : FullEach terms start told
  pub keeps : (file : List ℕ) → reads disk ≡ Some file → (tail : List Entry) × MayBeInDoubt terms.day start told tail
      × DeskKeeps (may_leave now.disk) now.desk tail
  pub any_moment : (file : List ℕ) → reads disk ≡ Some file
      → LeavesOnly moment left_since disk now.disk (StandsWithin terms (may_leave disk) (reads disk) start told)

-- a fault of the desk that a call of a day may answer
abbrev pub IsOfCall : DeskFault → Type 0
IsOfCall DeskFault.DiskFault = Unit {0}
IsOfCall (DeskFault.JournalFull size) = Unit {0}
IsOfCall (DeskFault.BadEntry at) = ⊥
IsOfCall (DeskFault.OtherRoster kept) = ⊥
IsOfCall (DeskFault.NotAJournal at) = ⊥
IsOfCall (DeskFault.BadLength at) = ⊥
IsOfCall DeskFault.OutOfMemory = Unit {0}

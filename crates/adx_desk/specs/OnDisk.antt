-- What the disk of a day keeps of it, at each moment and at the end. This project's own.
use Rattle.std.specs.Prelude.{◌≡◌, ◌⊎◌, ℕ, ◌+◌, ◌<◌, ◌≤◌, List, [], ◌∷◌, ◌++◌, length, Option, Some, None}
use Rattle.day_journal.specs.Disks.{Each, LeavesOnly}
use Rattle.adx_io.specs.Streams.{Rises}
use Rattle.day_machine.specs.Batches.{added_by}
use Rattle.day_machine.specs.Held.{longest_held, longest_record}
use Rattle.adx_desk.specs.Histories.{DeskTerms, IsHistoryOf, WithOrWithout, longest_size}
use Rattle.adx_desk.specs.Opened.{GivesUp}
use Rattle.adx_desk.specs.Openings.{HasDiskCause, StandsAsRead}
use Rattle.adx_desk.specs.Rosters.{desk_terms}
use Rattle.answer_lines.specs.declared.faults.Fault.{Fault}
use Rattle.day_journal.specs.Faults.{greatest_size}
use Rattle.day_rules.specs.declared.entry.Entry.{Entry}
use Rattle.day_rules.specs.Replies.{Call, reply}
use Rattle.day_rules.specs.Runs.{AreTurns, run}
use Rattle.day_rules.specs.Terms.{Terms}
use Rattle.day_rules.specs.RunBooks.{HasBooks}
use Rattle.adx_desk.specs.Courses.{Course, unopened, given_up, served, taken_calls}
use Rattle.adx_desk.specs.Meanings.{Told, turns_of}

-- the history after calls from a start
abbrev pub history_after : Terms → List Entry → List Told → List Entry
history_after terms start told = run terms start (turns_of told)

-- the record that a call writes after a history: its entry, if its reply has one
abbrev pub record_of : Terms → List Entry → Call → List Entry
record_of terms history call = added_by (reply terms history call).entry

-- the tail is the record of one of the calls at this history: that of the calls before it
pub record IsRecordOf (terms : Terms) (start : List Entry) (told : List Told) (history tail : List Entry) : Type 0 where
  pub front : List Told
  pub one : Told
  pub back : List Told
  pub split : told ≡ front ++ one ∷ back
  pub at : history ≡ history_after terms start front
  pub is : tail ≡ record_of terms history one.call

-- the tail is the record of a call that a fault of the disk gave up, and no entry was added after it
pub record IsInDoubt (terms : Terms) (start : List Entry) (told : List Told) (tail : List Entry) : Type 0 where
  pub front : List Told
  pub one : Told
  pub back : List Told
  pub split : told ≡ front ++ one ∷ back
  pub by_disk : one.fault ≡ Some Fault.Disk
  pub is : tail ≡ record_of terms (history_after terms start front) one.call
  pub last : history_after terms start told ≡ history_after terms start front

-- no record is in doubt, or that of a call that a fault of the disk gave up
abbrev pub MayBeInDoubt : Terms → List Entry → List Told → List Entry → Type 0
MayBeInDoubt terms start told tail = (tail ≡ []) ⊎ IsInDoubt terms start told tail

-- After these calls the disk keeps their history: each image represents it, or it and one record in doubt.
pub record KeepsRun (images : List ℕ → Type 0) (terms : DeskTerms) (start : List Entry) (told : List Told) : Type 0 where
  pub tail : List Entry
  pub doubted : MayBeInDoubt terms.day start told tail
  pub each : Each images (WithOrWithout terms (history_after terms.day start told) tail)

-- the file represents the history after some first ones of these calls, or it and the record of one of the calls at
-- just that history
pub record StandsInRun (terms : DeskTerms) (start : List Entry) (told : List Told) (file : List ℕ) : Type 0 where
  pub front : List Told
  pub back : List Told
  pub split : told ≡ front ++ back
  pub tail : List Entry
  pub is : (tail ≡ []) ⊎ IsRecordOf terms.day start told (history_after terms.day start front) tail
  pub stands : WithOrWithout terms (history_after terms.day start front) tail file

-- what a crash at some moment of a day leaves: an image from before it, the history that was read, or one of its run
abbrev pub StandsWithin : DeskTerms → (List ℕ → Type 0) → Option (List ℕ) → List Entry → List Told → List ℕ → Type 0
StandsWithin terms images reads start told file = StandsAsRead terms images reads file ⊎ StandsInRun terms start told file

-- the disk's count in one call: it rose where the disk's fault gave the call up, and else it stayed
abbrev pub CountsOne : ℕ → Option Fault → ℕ → Type 0
CountsOne before None now = now ≡ before
CountsOne before (Some Fault.Disk) now = (before ≤ now) × Rises before now
CountsOne before (Some (Fault.JournalFull size)) now = now ≡ before

-- its counts from call to call
abbrev pub CountsEach : ℕ → List Told → ℕ → Type 0
CountsEach before [] now = now ≡ before
CountsEach before (t ∷ told) now = (between : ℕ) × CountsOne before t.fault between × CountsEach between told now

-- an entry that the journal may have no room for: an ask's, or that of a change of a budget. Room for all others is held.
abbrev pub MayWantRoom : Entry → Type 0
MayWantRoom (Entry.Ask a) = Unit {0}
MayWantRoom (Entry.Win n) = ⊥
MayWantRoom (Entry.Bill n) = ⊥
MayWantRoom (Entry.Loss n) = ⊥
MayWantRoom (Entry.Expire now) = ⊥
MayWantRoom (Entry.Budget campaign change budget) = Unit {0}

-- A call that is answered that the journal is full has an entry, which is an ask's or that of a change of a budget: a notice
-- and a tick are never answered so. The size that is answered passes what a journal may have, and is at most what the longest
-- journal of the history comes to with that entry and all that is held then.
abbrev pub FullOnly : DeskTerms → List Entry → Option Entry → Option Fault → Type 0
FullOnly terms history entry None = Unit {0}
FullOnly terms history entry (Some Fault.Disk) = Unit {0}
FullOnly terms history None (Some (Fault.JournalFull size)) = ⊥
FullOnly terms history (Some e) (Some (Fault.JournalFull size)) =
    (greatest_size < size) × (size ≤ longest_size terms history + longest_record e + longest_held (history ++ e ∷ []))
    × MayWantRoom e

-- each call that was answered so
abbrev pub FullEach : DeskTerms → List Entry → List Told → Type 0
FullEach terms start told =
    (front : List Told) (one : Told) (back : List Told) → told ≡ front ++ one ∷ back
    → FullOnly terms (history_after terms.day start front) (reply terms.day (history_after terms.day start front) one.call).entry one.fault

-- A day that was served on a disk, from a history, with these calls.
pub record ServesRun {D : Type 0} (faults : D → ℕ) (reads : D → Option (List ℕ)) (may_leave : D → List ℕ → Type 0)
    (moment : D → ℕ) (left_since : D → ℕ → List ℕ → Type 0) (terms : DeskTerms) (start : List Entry) (told : List Told)
    (old new : D) : Type 0 where
  -- It began with the history that the file represented, where the disk reports what it reads.
  pub begins : (file : List ℕ) → reads old ≡ Some file → IsHistoryOf terms file start
  -- The calls are some that a day takes, and their books are those of the headline.
  pub taken : AreTurns (length terms.day.budgets) (turns_of told)
  pub books : HasBooks terms.day start (turns_of told) (history_after terms.day start told)
  -- The disk's count rose in just the calls that its fault gave up,
  pub counted : CountsEach (faults old) told (faults new)
  -- and a call was answered that the journal is full only where it may be.
  pub full : FullEach terms start told
  -- Where the disk reports what it reads, it keeps the history of the run now,
  pub keeps : (file : List ℕ) → reads old ≡ Some file → KeepsRun (may_leave new) terms start told
  -- and a crash at any moment leaves an image from before, the history that was read, or one of the run, with at most one
  -- record.
  pub any_moment : (file : List ℕ) → reads old ≡ Some file
      → LeavesOnly moment left_since old new (StandsWithin terms (may_leave old) (reads old) start told)

-- what became of the disk, by how the day went
abbrev pub CourseOn : {D : Type 0}
    → (faults : D → ℕ) (reads : D → Option (List ℕ)) (may_leave : D → List ℕ → Type 0) (moment : D → ℕ)
    (left_since : D → ℕ → List ℕ → Type 0) → Course → D → D → Type 0
CourseOn faults reads may_leave moment left_since unopened old new = new ≡ old
CourseOn faults reads may_leave moment left_since (given_up r why) old new =
    GivesUp reads may_leave moment left_since (desk_terms r) old new why × HasDiskCause (faults old) (faults new) why
CourseOn faults reads may_leave moment left_since (served r start told unwritten) old new =
    ServesRun faults reads may_leave moment left_since (desk_terms r) start (taken_calls told unwritten) old new

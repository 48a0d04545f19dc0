-- What comes of a day beside its input: what its disk's file represented, and which of its calls were given up. This
-- project's own.
use Rattle.std.specs.Prelude.{◌≡◌, ◌≢◌, List, [], ◌∷◌, ◌++◌, map, All, Option, Some, None}
use Rattle.adx_desk.specs.declared.fault.DeskFault.{DeskFault}
use Rattle.answer_lines.specs.declared.faults.Fault.{Fault}
use Rattle.day_rules.specs.declared.entry.Entry.{Entry}
use Rattle.deal_floor.specs.declared.roster.Roster.{Roster}
use Rattle.adx_desk.specs.Meanings.{AreDone, Told}

-- how a day went. It wasn't opened, since no roster's line came; or a roster's line came, and opening its day gave up
-- for this cause; or it was served from a history, with these calls, and perhaps one more whose answer wasn't written
-- for lack of memory
pub data Course : Type 0 where
  unopened : Course
  given_up : Roster → DeskFault → Course
  served : Roster → List Entry → List Told → Option Told → Course

-- the one more, if there is one
abbrev pub one_more : Option Told → List Told
one_more None = []
one_more (Some t) = t ∷ []

-- the calls that a day took
abbrev pub taken_calls : List Told → Option Told → List Told
taken_calls told unwritten = told ++ one_more unwritten

-- a call was given up by a fault of the disk
pub record HasDiskFault (told : List Told) : Type 0 where
  pub front : List Told
  pub faulted : Told
  pub back : List Told
  pub split : told ≡ front ++ faulted ∷ back
  pub by_disk : faulted.fault ≡ Some Fault.Disk

-- none was
abbrev pub HasNoDiskFault : List Told → Type 0
HasNoDiskFault told = All (λ (t : Told). t.fault ≢ Some Fault.Disk) told

-- an opening that gave up without a line may have gone on to any day; one with a line to none
abbrev pub GoesOnFrom : Roster → DeskFault → Course → Type 0
GoesOnFrom r DeskFault.DiskFault more = Unit {0}
GoesOnFrom r (DeskFault.JournalFull size) more = more ≡ given_up r (DeskFault.JournalFull size)
GoesOnFrom r (DeskFault.BadEntry at) more = more ≡ given_up r (DeskFault.BadEntry at)
GoesOnFrom r (DeskFault.OtherRoster kept) more = more ≡ given_up r (DeskFault.OtherRoster kept)
GoesOnFrom r (DeskFault.NotAJournal at) more = more ≡ given_up r (DeskFault.NotAJournal at)
GoesOnFrom r (DeskFault.BadLength at) more = more ≡ given_up r (DeskFault.BadLength at)
GoesOnFrom r DeskFault.OutOfMemory more = Unit {0}

-- a day that went so far may go on so
abbrev pub GoesOn : Course → Course → Type 0
GoesOn unopened more = Unit {0}
GoesOn (given_up r why) more = GoesOnFrom r why more
GoesOn (served r start told unwritten) more = (rest : List Told) × (more ≡ served r start (told ++ rest) None)

-- the two days differ in nothing that an output is fixed by beside its input: what the day was opened with, and which
-- of its calls were given up, and by what
abbrev pub AreAlike : Course → Course → Type 0
AreAlike unopened unopened = Unit {0}
AreAlike unopened other = ⊥
AreAlike (given_up r why) (given_up r_other why_other) = why ≡ why_other
AreAlike (given_up r why) other = ⊥
AreAlike (served r start told u) (served r_other start_other told_other u_other) =
    (start ≡ start_other) × (map (λ (t : Told). t.fault) told ≡ map (λ (t : Told). t.fault) told_other)
AreAlike (served r start told u) other = ⊥

-- a day in which nothing failed, from this history
abbrev pub IsSound : List Entry → Course → Type 0
IsSound start unopened = Unit {0}
IsSound start (given_up r why) = ⊥
IsSound start (served r begun told unwritten) = (begun ≡ start) × AreDone told × (unwritten ≡ None)

-- What the disk keeps of a run whose notices may be written together, at each moment and at the end. This project's own.
use Rattle.std.specs.Prelude.{◌≡◌, ◌≢◌, ◌⊎◌, ℕ, zero, suc, ◌≤◌, List, [], ◌∷◌, ◌++◌, map, length, Option, Some, None, IfSome}
use Rattle.day_journal.specs.Disks.{LeavesOnly}
use Rattle.adx_io.specs.Fakes.{counted}
use Rattle.adx_io.specs.Streams.{Rises}
use Rattle.day_machine.specs.Batches.{AreApart, added_by}
use Rattle.adx_desk.specs.Desks.{DeskKeeps, OnDisk}
use Rattle.adx_desk.specs.Histories.{DeskTerms, WithOrWithout}
use Rattle.day_machine.specs.declared.batch.TheConstants.{BATCH_LIMIT}
use Rattle.answer_lines.specs.declared.faults.Fault.{Fault}
use Rattle.day_rules.specs.declared.entry.Entry.{Entry}
use Rattle.day_rules.specs.Laws.{Arrival}
use Rattle.day_rules.specs.Legal.{IsLegal}
use Rattle.day_rules.specs.Replies.{Call, ask, notice, tick, set_budget, reply, with_entry}
use Rattle.day_rules.specs.Runs.{AreTurns, run}
use Rattle.day_rules.specs.Terms.{Terms}
use Rattle.adx_desk.specs.Together.{call_by}
use Rattle.adx_desk.specs.Meanings.{Told, turns_of}
use Rattle.adx_desk.specs.OnDisk.{CountsOne, FullEach, history_after}

-- the entries that calls add after a history, where each of them is done
abbrev pub entries_by : Terms → List Entry → List Call → List Entry
entries_by terms history [] = []
entries_by terms history (c ∷ calls) =
    added_by (reply terms history c).entry ++ entries_by terms (with_entry history (reply terms history c).entry) calls

-- calls whose entries one record may have: one call; or up to 32 notices, no two of one award
-- Example: a win whose record failed, and that was then asked alone and failed again, leaves its entry in doubt;
-- had it been done then, nothing would be.
abbrev pub MayShare : List Call → Type 0
MayShare calls =
    ((one : Call) × (calls ≡ one ∷ []))
    ⊎ ((notices : List Arrival) × (calls ≡ map call_by notices) × (length notices ≤ BATCH_LIMIT) × AreApart notices)

-- the tail is the record of some calls of the run, one after another, at this history: that of the calls before them
pub record IsRecordOfRun (terms : Terms) (start : List Entry) (told : List Told) (history tail : List Entry) : Type 0 where
  pub front : List Told
  pub group : List Told
  pub back : List Told
  pub split : told ≡ front ++ (group ++ back)
  pub share : MayShare (map (λ (t : Told). t.call) group)
  pub at : history ≡ history_after terms start front
  pub is : tail ≡ entries_by terms history (map (λ (t : Told). t.call) group)

-- each of these calls that has an entry after a history, where those before it are done, was given up by a fault of the
-- disk
abbrev pub AreGivenUp : Terms → List Entry → List Told → Type 0
AreGivenUp terms history [] = Unit {0}
AreGivenUp terms history (t ∷ told) =
    IfSome (reply terms history t.call).entry (λ e. t.fault ≡ Some Fault.Disk)
    × AreGivenUp terms (with_entry history (reply terms history t.call).entry) told

-- The tail is a record of the run at the history after all of it, so no entry was added since. Each call with an entry
-- in it was given up by a fault of the disk; of a call that was asked again alone the last try counts.
pub record IsLeftInDoubt (terms : Terms) (start : List Entry) (told : List Told) (tail : List Entry) : Type 0 where
  pub record_is : IsRecordOfRun terms start told (history_after terms start told) tail
  pub by_disk : AreGivenUp terms (history_after terms start told) record_is.group

-- What may be in doubt after a run, of what was in doubt before it: nothing; the same, where no entry was added; or such
-- a record of the run.
abbrev pub MayBeLeftBy : Terms → List Entry → List Told → List Entry → List Entry → Type 0
MayBeLeftBy terms start told tail next =
    (next ≡ []) ⊎ (((next ≡ tail) × (history_after terms start told ≡ start)) ⊎ IsLeftInDoubt terms start told next)

-- What may be in doubt at a moment of a run, at the history that the file has: nothing; what was in doubt before the
-- run, where no entry was added yet; or a record of the run at just that history.
abbrev pub MayBeInDoubtAt : Terms → List Entry → List Entry → List Told → List Entry → List Entry → Type 0
MayBeInDoubtAt terms start tail told history more =
    (more ≡ []) ⊎ (((more ≡ tail) × (history ≡ start)) ⊎ IsRecordOfRun terms start told history more)

-- the file represents the history after some first ones of these calls, or that and what may be in doubt there
pub record StandsInRunFrom (terms : DeskTerms) (start tail : List Entry) (told : List Told) (file : List ℕ) : Type 0 where
  pub front : List Told
  pub back : List Told
  pub split : told ≡ front ++ back
  pub more : List Entry
  pub is : MayBeInDoubtAt terms.day start tail told (history_after terms.day start front) more
  pub stands : WithOrWithout terms (history_after terms.day start front) more file

-- a call that may wait with others: a notice
abbrev pub MayWait : Call → Type 0
MayWait (ask a) = ⊥
MayWait (notice kind auction award) = Unit {0}
MayWait (tick now) = ⊥
MayWait (set_budget x) = ⊥

-- the disk's count where a call begins: as it was; or greater before a notice, by the fault of a record of notices that
-- waited together, one or more, which are then asked one by one
abbrev pub CountsBefore : ℕ → Call → ℕ → Type 0
CountsBefore before call from = (from ≡ before) ⊎ (MayWait call × (before ≤ from))

-- The disk's counts from call to call: it rose in each call that its fault gave up, and else before a notice alone.
abbrev pub CountsAmong : ℕ → List Told → ℕ → Type 0
CountsAmong before [] now = now ≡ before
CountsAmong before (t ∷ told) now =
    (from between : ℕ) × CountsBefore before t.call from × CountsOne from t.fault between × CountsAmong between told now

-- the desk's own count after a call
abbrev pub count_after : Option Fault → ℕ → ℕ
count_after None n = n
count_after (Some Fault.Disk) n = counted n
count_after (Some (Fault.JournalFull size)) n = n

-- it, raised so many times
abbrev pub raised : ℕ → ℕ → ℕ
raised zero n = n
raised (suc times) n = raised times (counted n)

-- The desk's own counts from call to call: the disk's fault raised it in each call that it gave up, and, before a notice,
-- for each record of notices that waited together, one or more, which are then asked one by one.
abbrev pub RaisesAmong : ℕ → List Told → ℕ → Type 0
RaisesAmong before [] now = now ≡ before
RaisesAmong before (t ∷ told) now =
    (times : ℕ) × ((times ≡ zero) ⊎ MayWait t.call) × RaisesAmong (count_after t.fault (raised times before)) told now

-- A run of calls on a desk, whose notices may be written together.
pub record RunsOn {D : Type 0} (faults : D → ℕ) (may_leave : D → List ℕ → Type 0) (moment : D → ℕ)
    (left_since : D → ℕ → List ℕ → Type 0) (old new : OnDisk D) (told : List Told) : Type 0 where
  pub terms : new.desk.terms ≡ old.desk.terms
  pub since : new.since ≡ old.since
  pub legal : IsLegal old.desk.terms.day old.desk.history
  pub taken : AreTurns (length old.desk.terms.day.budgets) (turns_of told)
  pub history : new.desk.history ≡ run old.desk.terms.day old.desk.history (turns_of told)
  pub counted : CountsAmong (faults old.disk) told (faults new.disk)
  -- the desk's own count of faults goes the same way: where it is 0 no call met one, and where it rose the disk's did
  pub known : RaisesAmong old.desk.faults told new.desk.faults
  pub passed : new.desk.faults ≡ 0 → faults new.disk ≡ faults old.disk
  pub risen : new.desk.faults ≢ old.desk.faults → Rises (faults old.disk) (faults new.disk)
  pub full : FullEach old.desk.terms old.desk.history told
  pub keeps : (tail : List Entry) → DeskKeeps (may_leave old.disk) old.desk tail
      → (next : List Entry) × MayBeLeftBy old.desk.terms.day old.desk.history told tail next × DeskKeeps (may_leave new.disk) new.desk next
  pub any_moment : (tail : List Entry) → DeskKeeps (may_leave old.disk) old.desk tail
      → LeavesOnly moment left_since old.disk new.disk (StandsInRunFrom old.desk.terms old.desk.history tail told)

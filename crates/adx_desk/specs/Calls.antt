-- The calls of a desk in few words: the reply to each by what the desk has, and what is said of its disk, with all that
-- a disk reports as one value. This project's own.
-- Example: of a desk `old`, `reply_to_tick old 60` is `tick_reply old.history 60`.
use Rattle.std.specs.Prelude.{◌≡◌, ℕ, List, [], Option, Some, Result}
use Rattle.day_journal.specs.declared.disk.Disk as disk
use Rattle.day_journal.specs.Disks.{AsRead, LeavesOnly}
use Rattle.notice_book.specs.declared.kind.NoticeKind.{NoticeKind}
use Rattle.day_journal.specs.Openings.{OpeningState, StandsBehind}
use Rattle.day_machine.specs.Batches.{entries_in_turn}
use Rattle.day_entries.specs.Entries.{entries_bytes}
use Rattle.day_rules.specs.Laws.{Arrival}
use Rattle.day_rules.specs.Terms.{Terms}
use Rattle.day_rules.specs.declared.ask.Ask.{Ask}
use Rattle.day_rules.specs.declared.entry.Entry.{Entry}
use Rattle.day_rules.specs.Entries.{BudgetChange}
use Rattle.day_rules.specs.Replies.{Reply, ask_reply, budget_reply, notice_reply, tick_reply}
use Rattle.adx_desk.specs.declared.fault.DeskFault.{DeskFault}
use Rattle.adx_desk.specs.Desks.{DeskState, OnDisk}
use Rattle.adx_desk.specs.Endings.{EndsAsk, EndsNotice}
use Rattle.adx_desk.specs.Histories.{DeskTerms, IsHistoryOf, StandsSame}
use Rattle.adx_desk.specs.Journaled.{JournaledState, on_disk}
use Rattle.adx_desk.specs.Openings.{IsRefusal, RefusesDesk}
use Rattle.adx_desk.specs.Opened.{GivesUp, Opens}
use Rattle.adx_desk.specs.Serving.{Serves, ServesAll}

-- the day's reply to an ask, at the history that the desk has
abbrev pub reply_to_ask : DeskState → Ask → Reply
reply_to_ask desk ask = ask_reply desk.terms.day desk.history ask

-- to a change of a campaign's budget
abbrev pub reply_to_change : DeskState → BudgetChange → Reply
reply_to_change desk change = budget_reply desk.terms.day desk.history change

-- to a notice of an award of an auction
abbrev pub reply_to_notice : DeskState → NoticeKind → List ℕ → ℕ → Reply
reply_to_notice desk kind auction award = notice_reply desk.history kind auction award

-- and to a moment
abbrev pub reply_to_tick : DeskState → ℕ → Reply
reply_to_tick desk now = tick_reply desk.history now

-- what a call with that entry, if any, leaves of a desk on a disk
abbrev pub DeskServes : {D T : Type 0} → disk.Ghosts D → (old new : OnDisk D) → Option Entry → Result T DeskFault → Type 0
DeskServes d old new entry result = Serves d.may_leave d.moment d.left_since old new entry result

-- and one with these entries
abbrev pub DeskServesAll : {D T : Type 0} → disk.Ghosts D → (old new : OnDisk D) → List Entry → Result T DeskFault → Type 0
DeskServesAll d old new entries result = ServesAll d.may_leave d.moment d.left_since old new entries result

-- how an ask or a change of a budget ends on a disk whose reply has that entry, if any
abbrev pub DeskEndsAsk : {D T : Type 0} → disk.Ghosts D → (old new : OnDisk D) → Option Entry → Result T DeskFault → Type 0
DeskEndsAsk d old new entry result = EndsAsk (d.faults old.disk) (d.faults new.disk) old.desk new.desk entry result

-- how a notice, a tick or a batch does
abbrev pub DeskEndsNotice : {D T : Type 0} → disk.Ghosts D → (old new : OnDisk D) → Result T DeskFault → Type 0
DeskEndsNotice d old new result = EndsNotice (d.faults old.disk) (d.faults new.disk) old.desk new.desk result

-- a desk with these terms was opened on a disk
abbrev pub DeskOpens : {D : Type 0} → disk.Ghosts D → DeskTerms → (old new : D) → DeskState → Type 0
DeskOpens d terms old new desk = Opens d.reads d.may_leave d.moment d.left_since terms old new desk

-- an opening of a desk with these terms gave up
abbrev pub DeskGivesUp : {D : Type 0} → disk.Ghosts D → DeskTerms → (old new : D) → DeskFault → Type 0
DeskGivesUp d terms old new why = GivesUp d.reads d.may_leave d.moment d.left_since terms old new why

-- so it is of the file that the disk reads, where it reports it and the opening comes after none of its payloads
abbrev pub OfFile : {D : Type 0} → disk.Ghosts D → D → OpeningState → (List ℕ → Type 0) → Type 0
OfFile d old opening P = (file : List ℕ) → d.reads old ≡ Some file → StandsBehind file opening [] → P file

-- and where each of its images is as it reads
abbrev pub OfWholeFile : {D : Type 0} → disk.Ghosts D → D → OpeningState → (List ℕ → Type 0) → Type 0
OfWholeFile d old opening P =
    (file : List ℕ) → d.reads old ≡ Some file → StandsBehind file opening [] → AsRead (d.reads old) (d.may_leave old) → P file

-- the terms of a day's desk, by those of the day and the roster's digest
abbrev pub terms_of : Terms → List ℕ → DeskTerms
terms_of day digest = record { day = day; digest = digest }

-- A crash at any moment of the call leaves this file, or one that represents the history that it represents.
abbrev pub LeavesSame : {D : Type 0} → disk.Ghosts D → DeskTerms → (old new : D) → List ℕ → Type 0
LeavesSame d terms old new file = LeavesOnly d.moment d.left_since old new (StandsSame terms file)

-- what a call of a day with its journal leaves beside a disk, with that entry, if any
abbrev pub DayServes : {D T : Type 0} → disk.Ghosts D → (old new : JournaledState) → (disk_old disk_new : D) → Option Entry → Result T DeskFault → Type 0
DayServes d old new disk_old disk_new entry result = DeskServes d (on_disk old disk_old) (on_disk new disk_new) entry result

-- and with these entries
abbrev pub DayServesAll : {D T : Type 0} → disk.Ghosts D → (old new : JournaledState) → (disk_old disk_new : D) → List Entry → Result T DeskFault → Type 0
DayServesAll d old new disk_old disk_new entries result = DeskServesAll d (on_disk old disk_old) (on_disk new disk_new) entries result

-- how an ask or a change of a budget ends beside a disk
abbrev pub DayEndsAsk : {D T : Type 0} → disk.Ghosts D → (old new : JournaledState) → (disk_old disk_new : D) → Option Entry → Result T DeskFault → Type 0
DayEndsAsk d old new disk_old disk_new entry result = EndsAsk (d.faults disk_old) (d.faults disk_new) old.desk new.desk entry result

-- neither the day nor its disk moved
abbrev pub IsUnmoved : {D : Type 0} → (old new : JournaledState) → (disk_old disk_new : D) → Type 0
IsUnmoved old new disk_old disk_new = on_disk new disk_new ≡ on_disk old disk_old

-- the bytes of the record of a batch
abbrev pub batch_bytes : DeskState → List Arrival → List ℕ
batch_bytes desk calls = entries_bytes desk.journal.format (entries_in_turn desk.history calls)

-- a file represents at most one history
abbrev pub HasOneHistory : Type 0
HasOneHistory =
    (terms : DeskTerms) (file : List ℕ) (history other : List Entry)
    → IsHistoryOf terms file history → IsHistoryOf terms file other → history ≡ other

-- a file that represents a history is refused by no fault
abbrev pub RefusalsExclude : Type 0
RefusalsExclude =
    (terms : DeskTerms) (file : List ℕ) (why : DeskFault) (history : List Entry)
    → IsRefusal why → RefusesDesk terms file why → IsHistoryOf terms file history → ⊥

-- a file is refused by at most one fault
abbrev pub HasOneRefusal : Type 0
HasOneRefusal =
    (terms : DeskTerms) (file : List ℕ) (why other : DeskFault) → IsRefusal why → IsRefusal other
    → RefusesDesk terms file why → RefusesDesk terms file other → why ≡ other

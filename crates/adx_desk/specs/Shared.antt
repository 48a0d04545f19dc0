-- A desk that threads share. This project's own.
use Rattle.std.specs.Prelude.{◌≡◌, ℕ, ◌+◌, ◌<◌, ◌≤◌, Bool, true, false, List, [], ◌∷◌, ◌++◌, length, Option, Some, None, Result, Ok, Err}
use Rattle.day_rules.specs.declared.answer.Answer.{Answer}
use Rattle.day_journal.specs.Faults.{greatest_size}
use Rattle.day_rules.specs.declared.entry.Entry.{Entry}
use Rattle.day_rules.specs.Replies.{Call as DayCall, Reply, ask, notice, tick, set_budget, reply}
use Rattle.day_rules.specs.Entries.{change_of}
use Rattle.day_rules.specs.RunBooks.{HasBooks}
use Rattle.day_rules.specs.Runs.{IsCall, Outcome, Turn as DayTurn, done, faulted, run}
use Rattle.adx_desk.specs.declared.fault.DeskFault.{DeskFault}
use Rattle.adx_desk.specs.declared.shared.OpenedWith.{OpenedWith}
use Rattle.adx_desk.specs.declared.turn.Call.{Call}
use Rattle.adx_desk.specs.declared.turn.Turn.{Turn}
use Rattle.adx_desk.specs.Desks.{AtOpening}
use Rattle.adx_desk.specs.Histories.{DeskTerms, longest_size}
use Rattle.day_machine.specs.Held.{longest_held, longest_record}

-- what a desk was opened with, by its terms and what is known from the opening
abbrev pub opened_with : DeskTerms → AtOpening → OpenedWith
opened_with terms since = record { budgets = terms.day.budgets; limits = terms.day.limits; digest = terms.digest; faults = since.count; tells = since.tells }

-- the terms of a desk that was opened with this
abbrev pub terms_in : OpenedWith → DeskTerms
terms_in opened = record { day = record { budgets = opened.budgets; limits = opened.limits }; digest = opened.digest }

-- a call as the rules of a day have it
abbrev pub call_of : Call → DayCall
call_of (Call.Ask a) = ask a
call_of (Call.Notice kind auction award) = notice kind auction award
call_of (Call.Tick now) = tick now
call_of (Call.Budget campaign change budget) = set_budget (change_of campaign change budget)

-- a call that takes memory, and room in the journal that isn't held for it
abbrev pub TakesRoom : Call → Type 0
TakesRoom (Call.Ask a) = Unit {0}
TakesRoom (Call.Notice kind auction award) = ⊥
TakesRoom (Call.Tick now) = ⊥
TakesRoom (Call.Budget campaign change budget) = Unit {0}

-- The journal may be answered to be full, with this size: there is an entry to add, and the size passes what a journal takes,
-- and is at most what the longest journal of the history comes to with the entry's record, and with what is held then.
abbrev pub MayBeFull : DeskTerms → List Entry → Option Entry → ℕ → Type 0
MayBeFull terms history None size = ⊥
MayBeFull terms history (Some e) size =
    (greatest_size < size) × (size ≤ longest_size terms history + longest_record e + longest_held (history ++ e ∷ []))

-- How a call with this reply ends, and the entry that it adds: it is done, with the reply's answer and entry, or it is
-- given up without an entry. Any call may meet a fault of the disk; others have their causes.
abbrev pub EndsAs : DeskTerms → List Entry → Call → Reply → Result Answer DeskFault → Option Entry → Type 0
EndsAs terms history call r (Ok answer) entry = (answer ≡ r.answer) × (entry ≡ r.entry)
EndsAs terms history call r (Err DeskFault.DiskFault) entry = entry ≡ None
EndsAs terms history call r (Err (DeskFault.JournalFull size)) entry =
    (entry ≡ None) × TakesRoom call × MayBeFull terms history r.entry size
EndsAs terms history call r (Err (DeskFault.BadEntry at)) entry = ⊥
EndsAs terms history call r (Err (DeskFault.OtherRoster kept)) entry = ⊥
EndsAs terms history call r (Err (DeskFault.NotAJournal at)) entry = ⊥
EndsAs terms history call r (Err (DeskFault.BadLength at)) entry = ⊥
EndsAs terms history call r (Err DeskFault.OutOfMemory) entry = (entry ≡ None) × TakesRoom call

-- the turn is one of a desk with these terms, where it is called at this history
pub record IsTurnAt (terms : DeskTerms) (history : List Entry) (turn : Turn) : Type 0 where
  pub takes : IsCall (length terms.day.budgets) (call_of turn.call)
  pub ends : EndsAs terms history turn.call (reply terms.day history (call_of turn.call)) turn.ended turn.entry

-- the disk's fault gave the call up
abbrev pub is_disk_fault : Result Answer DeskFault → Bool
is_disk_fault (Ok answer) = false
is_disk_fault (Err DeskFault.DiskFault) = true
is_disk_fault (Err (DeskFault.JournalFull size)) = false
is_disk_fault (Err (DeskFault.BadEntry at)) = false
is_disk_fault (Err (DeskFault.OtherRoster kept)) = false
is_disk_fault (Err (DeskFault.NotAJournal at)) = false
is_disk_fault (Err (DeskFault.BadLength at)) = false
is_disk_fault (Err DeskFault.OutOfMemory) = false

-- how a call ended, as a run of the day has it
abbrev pub outcome_in : Result Answer DeskFault → Outcome
outcome_in (Ok answer) = done
outcome_in (Err fault) = faulted

-- a turn as a run of the day has it
abbrev pub day_turn : Turn → DayTurn
day_turn turn = record { call = call_of turn.call; outcome = outcome_in turn.ended }

-- What the turn leaves of the history that it is called at is what a run over it alone leaves: each campaign's money is that
-- of the calls taken once, within its budget at each point; each ask is there as its choice was; and it is a repeat
-- exactly where its call was taken before.
abbrev pub IsTakenAt : DeskTerms → List Entry → Turn → Type 0
IsTakenAt terms history turn = HasBooks terms.day history (day_turn turn ∷ []) (run terms.day history (day_turn turn ∷ []))

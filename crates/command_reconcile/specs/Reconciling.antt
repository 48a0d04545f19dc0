-- What the reconciliation of a journal's day with a bidder's ledger writes, and what it leaves of the disk. This
-- project's own.
use Rattle.std.specs.Prelude.{◌≡◌, ◌⊎◌, ◌≤◌, ℕ, List, [], ◌++◌, length, codes, decimal, Option, Some, None, Result, Ok, Err}
use Rattle.adx_desk.specs.Opened.{GivesUp}
use Rattle.adx_desk.specs.Openings.{HasDiskCause}
use Rattle.adx_desk.specs.Rosters.{desk_terms}
use Rattle.adx_desk.specs.declared.fault.DeskFault.{DeskFault}
use Rattle.day_journal.specs.declared.disk.Disk as disk
use Rattle.adx_io.specs.declared.line_buffer.TheConstants.{CHUNK}
use Rattle.adx_io.specs.declared.stop.Stop.{Stop}
use Rattle.bidder_core.specs.declared.ledger.LedgerRow.{LedgerRow}
use Rattle.command_reconcile.specs.Agreements.{Reconciles}
use Rattle.command_reconcile.specs.declared.bill.Bill.{Bill}
use Rattle.command_reconcile.specs.DayBills.{day_bills, place_named}
use Rattle.command_reconcile.specs.Ledgers.{FailsAt, IsLedger, ledger_bills}
use Rattle.command_runs.specs.Meanings.{Meaning}
use Rattle.command_runs.specs.declared.outcome.Outcome.{Outcome}
use Rattle.day_rules.specs.declared.entry.Entry.{Entry}
use Rattle.deal_floor.specs.declared.roster.Roster.{Roster}
use Rattle.history_runs.specs.Histories.{KeepsHistory}
use Rattle.history_runs.specs.Unopened.{GivesUpBy, unopened_end}
use Rattle.history_runs.specs.Output.{unopened_line}

-- the lines of what is refused
abbrev pub no_bidder_line : List ℕ
no_bidder_line = codes "{\"answer\":\"bidder\"}\n"

-- the line that says that line n isn't one of a ledger
abbrev pub no_row_line : ℕ → List ℕ
no_row_line n = codes "{\"answer\":\"ledger\",\"line\":" ++ decimal n ++ codes "}\n"

-- How a run ends of its own: how, behind which bytes of what comes after the roster, with which bytes left, and what it
-- has written.
abbrev pub Ending : Type 1
Ending = Outcome → List ℕ → List ℕ → List ℕ → Type 0

-- nothing was read after the roster, and at most a piece was taken
abbrev pub IsUnread : List ℕ → Type 0
IsUnread taken = length taken ≤ CHUNK

-- A ledger was read, and what is written is the reconciliation of these bills with its own; or its first line that fails
-- is refused.
abbrev pub EndsLedger : List Bill → ℕ → Ending
EndsLedger owed allowed outcome taken left out =
    ((rows : List LedgerRow) × IsLedger allowed taken left rows × (outcome ≡ Outcome.Done) × Reconciles owed (ledger_bills rows) out)
    ⊎ ((n : ℕ) × FailsAt allowed taken left n × (outcome ≡ Outcome.Refused) × (out ≡ no_row_line n))

-- The same of the bills that the bidder at a place owes in a history, by that place; a bidder that the roster hasn't is refused before its ledger is read.
abbrev pub EndsOpened : Roster → List Entry → ℕ → Option ℕ → Ending
EndsOpened r history allowed (Some bidder) outcome taken left out = EndsLedger (day_bills r.campaigns bidder history) allowed outcome taken left out
EndsOpened r history allowed None outcome taken left out = IsUnread taken × (outcome ≡ Outcome.Refused) × (out ≡ no_bidder_line)

-- The same by what came of the roster's day: it was opened with a history, or not for a cause, and then the ledger isn't
-- read.
abbrev pub EndsDay : List ℕ → Roster → ℕ → Result (List Entry) DeskFault → Ending
EndsDay name r allowed (Ok history) outcome taken left out = EndsOpened r history allowed (place_named name r.bidders) outcome taken left out
EndsDay name r allowed (Err why) outcome taken left out = IsUnread taken × (unopened_end why ≡ Ok outcome) × (out ≡ unopened_line why)

-- what a command means that writes at its end alone, where so many bytes may be read
abbrev pub at_end : ℕ → Ending → Meaning
at_end allowed ends = record {
  ends = ends;
  awaits = λ taken out. (length taken ≤ allowed) × (out ≡ []);
  breaks = λ taken left put last.
      (put ≡ []) × (((outcome : Outcome) × ends outcome taken left last) ⊎ ((last ≡ []) × (length taken ≤ allowed)));
}

-- what is meant for what comes after a roster's line, for the bidder with that name, by what came of the roster's day
abbrev pub reconciling : List ℕ → Roster → ℕ → Result (List Entry) DeskFault → Meaning
reconciling name r allowed day = at_end allowed (EndsDay name r allowed day)

-- how a run ends whose day was opened
abbrev pub EndsRead : Result Outcome Stop → Type 0
EndsRead (Ok outcome) = (outcome ≡ Outcome.Done) ⊎ (outcome ≡ Outcome.Refused)
EndsRead (Err stop) = Unit {0}

-- what became of the disk, by what came of the roster's day, and how the run ended: no entry was added
abbrev pub LeavesDisk : {D : Type 0} → disk.Ghosts D → Roster → Result (List Entry) DeskFault → D → D → Result Outcome Stop → Type 0
LeavesDisk d r (Ok history) old new result = KeepsHistory d r history old new × EndsRead result
LeavesDisk d r (Err why) old new result =
    GivesUp d.reads d.may_leave d.moment d.left_since (desk_terms r) old new why × HasDiskCause (d.faults old) (d.faults new) why
    × GivesUpBy why result

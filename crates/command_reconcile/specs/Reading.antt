-- Private, cited by helpers alone: how the lines of a ledger are read one after another.
use Rattle.std.specs.Prelude.{◌≡◌, ◌≢◌, ◌⊎◌, ◌≤◌, ◌<◌, ℕ, ◌+◌, List, [], ◌++◌, length, All, Bool, true, false, Option, Some, None, Result, Ok, Err}
use Rattle.std.specs.List.{cons_option}
use Rattle.adx_io.specs.Lines.{Keeps}
use Rattle.adx_io.specs.Streams.{Tape}
use Rattle.adx_io.specs.Talk.{Reads, TalkState}
use Rattle.adx_io.specs.declared.stop.Stop.{Stop}
use Rattle.bidder_core.specs.declared.ledger.LedgerRow.{LedgerRow}
use Rattle.bidder_http.specs.Books.{ledger_text}
use Rattle.command_reconcile.specs.Agreements.{Reconciles}
use Rattle.command_reconcile.specs.declared.bill.Bill.{Bill}
use Rattle.command_reconcile.specs.Ledgers.{FailsAt, IsLedger, IsLedgerRow, IsRowLine, TellsNoRow, ledger_bills, row_bill}
use Rattle.command_runs.specs.Meanings.{PutsEnd}
use Rattle.command_runs.specs.declared.outcome.Outcome.{Outcome}
use Rattle.command_runs.specs.Limits.{line_limit}

-- a line tells a row, whose bill was added; or it tells none, or is longer than a line may be
abbrev pub TakesRow : List Bill → List Bill → Bool → List ℕ → Type 0
TakesRow old new true line = (row : LedgerRow) × IsRowLine line row × (length line ≤ line_limit) × (new ≡ old ++ cons_option (row_bill row) [])
TakesRow old new false line = (TellsNoRow line ⊎ (line_limit < length line)) × (new ≡ old)

-- so it is of the line that a buffer keeps
abbrev pub OfKept : Bool → List ℕ → (List ℕ → Type 0) → Type 0
OfKept overlong kept P = (line : List ℕ) → Keeps line_limit overlong kept line → P line

-- whether a last piece is there, by the number of its line
abbrev pub IsLastPiece : ℕ → Option ℕ → List ℕ → Type 0
IsLastPiece n None piece = piece ≡ []
IsLastPiece n (Some m) piece = (piece ≢ []) × (m ≡ n)

-- some rows were read, which tell these bills, and the next line has this number
abbrev pub ReadsRows : TalkState → TalkState → List Bill → ℕ → Tape → Tape → Type 0
ReadsRows before now bills n old new =
    (rows : List LedgerRow) × All IsLedgerRow rows × Reads before now old new (ledger_text rows) × (bills ≡ ledger_bills rows) × (n ≡ length rows + 1)

-- what was read of a ledger: all of it; up to its first line that fails; or a part of it before a fault
abbrev pub ReadsLedger : ℕ → List Bill → Result (Option ℕ) Stop → Tape → Tape → Type 0
ReadsLedger allowed bills (Ok None) old new =
    (taken : List ℕ) × (old.left ≡ taken ++ new.left) × (rows : List LedgerRow) × IsLedger allowed taken new.left rows × (bills ≡ ledger_bills rows)
ReadsLedger allowed bills (Ok (Some n)) old new = (taken : List ℕ) × (old.left ≡ taken ++ new.left) × FailsAt allowed taken new.left n
ReadsLedger allowed bills (Err stop) old new = (taken : List ℕ) × (old.left ≡ taken ++ new.left) × (length taken ≤ allowed)

-- the reconciliation of these bills was put, or a prefix of it; or memory was refused before
abbrev pub PutsReconciliation : List Bill → List Bill → Option (List ℕ) → Option (List ℕ) → Result Outcome Stop → Type 0
PutsReconciliation owed told held held_now result =
    ((out : List ℕ) × Reconciles owed told out × PutsEnd Outcome.Done held held_now out result)
    ⊎ ((held_now ≡ held) × (result ≡ Err Stop.OutOfMemory))

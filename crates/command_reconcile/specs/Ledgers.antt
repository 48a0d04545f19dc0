-- A bidder's ledger as an input: line after line, each the one compact spelling (JSON, RFC 8259) of a notice that was
-- counted. This project's own.
use Rattle.std.specs.Prelude.{◌≡◌, ◌≢◌, ◌⊎◌, ◌≤◌, ◌<◌, ℕ, ◌+◌, ◌-◌, List, [], ◌∷◌, ◌++◌, length, All, IsUtf8, Option, Some, None, if◌then◌else◌}
use Rattle.std.specs.List.{filter_map}
use Rattle.adx_io.specs.Lines.{HasNoNewline}
use Rattle.adx_io.specs.Talk.{ended}
use Rattle.adx_units.specs.Ids.{IsSized}
use Rattle.adx_units.specs.declared.price.TheConstants.{PRICE_LIMIT}
use Rattle.bidder_core.specs.Ledger.{is_kind}
use Rattle.bidder_core.specs.declared.ledger.LedgerRow.{LedgerRow}
use Rattle.bidder_http.specs.Books.{ledger_line, ledger_text}
use Rattle.command_reconcile.specs.declared.bill.Bill.{Bill}
use Rattle.command_runs.specs.Firsts.{IsAhead}
use Rattle.command_runs.specs.Limits.{line_limit}
use Rattle.notice_book.specs.declared.kind.NoticeKind.{NoticeKind}

-- A row that a line may tell: its auction is a name of 1 to 128 bytes, its texts are UTF-8, and its price is at most the
-- greatest price.
-- Example: `{"auction":"a1","bid":"0-0","kind":"win","price":5}` is a row without a bill.
pub record IsRow (row : LedgerRow) : Type 0 where
  pub sized : IsSized row.auction
  pub auction_utf8 : IsUtf8 row.auction
  pub bid_utf8 : IsUtf8 row.bid
  pub price : row.price.0 ≤ PRICE_LIMIT

-- the line, which comes without its newline, tells that row
abbrev pub IsRowLine : List ℕ → LedgerRow → Type 0
IsRowLine line row = IsRow row × (ended line ≡ ledger_line row)

-- it tells none
abbrev pub TellsNoRow : List ℕ → Type 0
TellsNoRow line = (row : LedgerRow) → IsRowLine line row → ⊥

-- so it is of a ledger where its line, without the newline, is no longer than a line may be
abbrev pub IsLedgerRow : LedgerRow → Type 0
IsLedgerRow row = IsRow row × (length (ledger_line row) ≤ line_limit + 1)

-- the bill that a row tells
abbrev pub row_bill : LedgerRow → Option Bill
row_bill row = if is_kind NoticeKind.Bill row.kind then Some (record { auction = row.auction; price = row.price }) else None

-- the bills of a ledger, in the order of its rows
abbrev pub ledger_bills : List LedgerRow → List Bill
ledger_bills rows = filter_map row_bill rows

-- these rows are the ledger: the lines of all of them were taken, and nothing is left
pub record IsLedger (allowed : ℕ) (taken left : List ℕ) (rows : List LedgerRow) : Type 0 where
  pub each : All IsLedgerRow rows
  pub spelled : taken ≡ ledger_text rows
  pub few : length taken ≤ allowed
  pub all_read : left ≡ []

-- How no row's line comes next, where so many bytes more may be read: a line that tells no row, or is longer than a line may
-- be, behind which at most a piece was taken; a last piece without a newline; or the input passes its limit in a line,
-- and one byte more was taken.
abbrev pub HasNoRow : ℕ → List ℕ → List ℕ → Type 0
HasNoRow room behind left =
    ((line : List ℕ) × HasNoNewline line × (TellsNoRow line ⊎ (line_limit < length line)) × IsAhead (ended line) behind)
    ⊎ ((HasNoNewline behind × (behind ≢ []) × (length behind ≤ room) × (left ≡ []))
    ⊎ ((line : List ℕ) × (more : ℕ) × HasNoNewline line × (length line ≡ room) × (behind ≡ line ++ more ∷ [])))

-- line n, counted from 1, is the first that isn't the line of a row
pub record FailsAt (allowed : ℕ) (taken left : List ℕ) (n : ℕ) : Type 0 where
  pub rows : List LedgerRow
  pub each : All IsLedgerRow rows
  pub behind : List ℕ
  pub split : taken ≡ ledger_text rows ++ behind
  pub number : n ≡ length rows + 1
  pub fails : HasNoRow (allowed - length (ledger_text rows)) behind left

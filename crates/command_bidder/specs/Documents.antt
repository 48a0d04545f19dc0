-- The first line of a document, as a price line. This project's own.
use Rattle.std.specs.Prelude.{◌≡◌, ◌⊎◌, ℕ, List, Result, Ok, Err}
use Rattle.bidder_core.specs.Seen.{BidderState}
use Rattle.command_runs.specs.declared.first.NoLine.{NoLine}
use Rattle.command_runs.specs.FirstLines.{HasNoLine, IsShortLine}
use Rattle.script_lines.specs.declared.refusal.RosterRefusal.{RosterRefusal}
use Rattle.command_bidder.specs.declared.fault.PricesFault.{PricesFault}
use Rattle.command_bidder.specs.PriceLines.{IsPriceLine, RefusesPriceLine}

-- a document without a first line is refused so
abbrev pub refusal_by : NoLine → RosterRefusal
refusal_by NoLine.Cut = RosterRefusal.Cut
refusal_by NoLine.Long = RosterRefusal.Long

-- the document's first line is this bidder's
-- Example: `[]` and a newline lacks prices for `field seat`, and no bytes at all for `cut`.
abbrev pub BeginsWithPrices : List ℕ → BidderState → Type 0
BeginsWithPrices document b = (line : List ℕ) × IsShortLine document line × IsPriceLine line b

-- why the document's first line is no bidder's, or why it has none
abbrev pub LacksPrices : List ℕ → RosterRefusal → Type 0
LacksPrices document why =
    ((line : List ℕ) × IsShortLine document line × RefusesPriceLine line why)
    ⊎ ((none : NoLine) × HasNoLine none document × (why ≡ refusal_by none))

-- what was found of the document; where memory was refused nothing is said
abbrev pub FindsFirst : List ℕ → Result BidderState PricesFault → Type 0
FindsFirst document (Ok b) = BeginsWithPrices document b
FindsFirst document (Err (PricesFault.Refused why)) = LacksPrices document why
FindsFirst document (Err PricesFault.OutOfMemory) = Unit {0}

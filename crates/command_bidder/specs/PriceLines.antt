-- What a price line is: a bidder's, or why it is none. This project's own.
use Rattle.std.specs.Prelude.{◌≡◌, ◌≢◌, ◌⊎◌, ℕ, List, [], Some, Result, Ok, Err}
use Rattle.adx_json.specs.Tree.{Tree}
use Rattle.adx_json.specs.Grammar.{IsJson}
use Rattle.adx_json.specs.Faults.{IsFault}
use Rattle.adx_json.specs.declared.fault.JsonFault.{JsonFault}
use Rattle.bidder_core.specs.Seen.{BidderState}
use Rattle.bidder_core.specs.PriceLines.{IsLine, line_fault}
use Rattle.deal_floor.specs.declared.fault.RosterFault.{RosterFault}
use Rattle.script_lines.specs.declared.refusal.RosterRefusal.{RosterRefusal}
use Rattle.script_lines.specs.declared.refusal.RosterRefusal.TheVariants.{Json, Member}
use Rattle.command_bidder.specs.declared.fault.PricesFault.{PricesFault}

-- the value is a price line, and the bidder is its, with no notice yet
-- Example: `{"seat":"s1","prices":[{"cid":"c1","price":2.5}]}` is that of a bidder with one price of 2,500,000
-- units.
abbrev pub IsPrices : Tree → BidderState → Type 0
IsPrices t b = IsLine t b.line × (b.rows ≡ [])

-- the line is this bidder's, in any spelling of its value
abbrev pub IsPriceLine : List ℕ → BidderState → Type 0
IsPriceLine line b = (t : Tree) × IsJson line t × IsPrices t b

-- the value is no price line, and this is the first fault
abbrev pub RefusesPrices : Tree → RosterRefusal → Type 0
RefusesPrices t why = (f : RosterFault) × (line_fault t ≡ Some f) × (why ≡ Member f)

-- the line is no bidder's: it is no JSON text, or its value is no price line
abbrev pub RefusesPriceLine : List ℕ → RosterRefusal → Type 0
RefusesPriceLine line why =
    ((t : Tree) × IsJson line t × RefusesPrices t why)
    ⊎ ((f : JsonFault) × (f ≢ JsonFault.OutOfMemory) × IsFault line f × (why ≡ Json f))

-- what was found of the line's value; where memory was refused nothing is said
abbrev pub FindsPrices : Tree → Result BidderState PricesFault → Type 0
FindsPrices t (Ok b) = IsPrices t b
FindsPrices t (Err (PricesFault.Refused why)) = RefusesPrices t why
FindsPrices t (Err PricesFault.OutOfMemory) = Unit {0}

-- what was found of the line
abbrev pub FindsPriceLine : List ℕ → Result BidderState PricesFault → Type 0
FindsPriceLine line (Ok b) = IsPriceLine line b
FindsPriceLine line (Err (PricesFault.Refused why)) = RefusesPriceLine line why
FindsPriceLine line (Err PricesFault.OutOfMemory) = Unit {0}

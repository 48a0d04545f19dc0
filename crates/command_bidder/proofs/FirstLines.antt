-- What is found of a document by its first line.
use Rattle.std.proofs.Common.{List, ℕ, inl, Result, Ok, Err}
use Rattle.bidder_core.specs.Seen.{BidderState}
use Rattle.command_runs.specs.FirstLines.{IsShortLine}
use Rattle.command_bidder.specs.declared.fault.PricesFault.{PricesFault}
use Rattle.command_bidder.specs.Documents.{FindsFirst}
use Rattle.command_bidder.specs.PriceLines.{FindsPriceLine}

pub found_first : (document line : List ℕ) (r : Result BidderState PricesFault) → IsShortLine document line → FindsPriceLine line r → FindsFirst document r
found_first document line (Ok b) is found = (line, is, found)
found_first document line (Err (PricesFault.Refused why)) is refuses = inl (line, is, refuses)
found_first document line (Err PricesFault.OutOfMemory) is none = tt

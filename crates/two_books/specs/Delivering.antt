-- What a message comes to at the bidder, and what comes back. A message is served as one connection. This project's own.
use Rattle.std.specs.Prelude.{◌≡◌, ◌⊎◌, ℕ, List, [], ◌∷◌, ◌++◌, length, Option, Some, None}
use Rattle.http_connection.specs.Messages.{AreRequests, RefusesRequest, Request}
use Rattle.http_grammar.specs.declared.fault.HttpFault.{HttpFault}
use Rattle.http_service.specs.Connections.{AreSpent, CloseLast, GoOn, Replies}
use Rattle.http_service.specs.Replies.{fault_status, refusal_bytes}
use Rattle.http_service.specs.declared.limits.TheConstants.{REQUEST_LIMIT}
use Rattle.bidder_core.specs.Ledger.{bidder_ruling, rows_after}
use Rattle.bidder_core.specs.Seen.{BidderState}
use Rattle.bidder_core.specs.declared.ledger.LedgerRow.{LedgerRow}
use Rattle.bidder_http.specs.Messages.{BidderAnswers}
use Rattle.two_books.specs.OwnMessages.{BeginWith, notice_of}

-- the ledger carried on over a notice, at a bidder with so many prices: the table of notices rules on it
abbrev pub carried_on : ℕ → List LedgerRow → Option LedgerRow → List LedgerRow
carried_on prices rows None = rows
carried_on prices rows (Some row) = rows_after (bidder_ruling prices row.kind row.auction row.bid rows) row rows

-- the ledger carried on over the requests of a message, in their order
abbrev pub carried_over : ℕ → List LedgerRow → List Request → List LedgerRow
carried_over prices rows [] = rows
carried_over prices rows (m ∷ ms) = carried_over prices (carried_on prices rows (notice_of m)) ms

-- the requests that a connection with these bytes brings: all of them, up to one that closes it or is refused, or as many
-- as a connection may bring
-- Example: a bill that is heard twice is counted once: the second is a repeat.
abbrev pub IsHeard : List ℕ → List Request → Type 0
IsHeard bytes ms =
    (rest : List ℕ) × AreRequests REQUEST_LIMIT bytes ms rest
    × (CloseLast ms ⊎ (AreSpent ms
    ⊎ (GoOn ms × ((rest ≡ []) ⊎ ((fault : HttpFault) × RefusesRequest REQUEST_LIMIT rest fault)))))

-- the bidder's ledger was carried on over these requests, and nothing else of the bidder changed
pub record IsCarried (ms : List Request) (old new : BidderState) : Type 0 where
  pub rows : new.rows ≡ carried_over (length old.line.prices) old.rows ms
  pub line : new.line ≡ old.line

-- the bidder was served a message
abbrev pub IsDelivered : List ℕ → BidderState → BidderState → Type 0
IsDelivered bytes old new = (ms : List Request) × IsHeard bytes ms × IsCarried ms old new

-- it was served some first of its requests, for lack of memory
abbrev pub StopsDelivering : List ℕ → BidderState → BidderState → Type 0
StopsDelivering bytes old new = (ms : List Request) × BeginWith bytes ms × IsCarried ms old new

-- what the bidder replies to the requests of a message, and to what is refused after them
abbrev pub IsReplied : List ℕ → BidderState → List ℕ → BidderState → Type 0
IsReplied bytes old reply new =
    (ms : List Request) × (out : List ℕ) × (heard : IsHeard bytes ms) × Replies BidderAnswers old ms out new
    × ((reply ≡ out)
    ⊎ ((fault : HttpFault) × (status : ℕ) × RefusesRequest REQUEST_LIMIT heard.0 fault × (fault_status fault ≡ Some status)
    × (reply ≡ out ++ refusal_bytes status)))

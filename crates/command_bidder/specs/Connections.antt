-- Connections that a bidder served one after another on one ledger. This project's own.
use Rattle.std.specs.Prelude.{◌≡◌, List, [], ◌∷◌, Bool, true, false, ◌||◌}
use Rattle.adx_links.specs.Pairs.{IsNew, PairTold}
use Rattle.bidder_core.specs.Seen.{BidderState}
use Rattle.bidder_http.specs.Messages.{BidderAnswers, BidderGivesUp}
use Rattle.http_connection.specs.declared.conn.ConnEnd.{ConnEnd}
use Rattle.http_service.specs.Connections.{EndsWith, HasCauses}
use Rattle.http_service.specs.declared.limits.TheConstants.{REQUEST_LIMIT}

-- a connection: what its pair reported when it was given out and when it was given back, and how it ended
-- Example: a bill on the first connection and the same bill on the second: 204 twice, and one row in the ledger.
pub record Connection : Type 0 where
  pub came : PairTold
  pub left : PairTold
  pub end : ConnEnd

-- The connection came as new, and the bidder, as it was, answered its messages; that left the bidder so.
pub record IsServed (bidder : BidderState) (c : Connection) (now : BidderState) : Type 0 where
  pub new : IsNew c.came
  pub ends : EndsWith BidderAnswers BidderGivesUp REQUEST_LIMIT c.came.tape c.left.tape c.came.held c.left.held bidder now c.end
  pub causes : HasCauses c.came.read_faults c.left.read_faults c.came.write_faults c.left.write_faults c.end

-- the connections were served one after another, each by the bidder as those before it had left it
abbrev pub AreServed : BidderState → List Connection → BidderState → Type 0
AreServed bidder [] now = now ≡ bidder
AreServed bidder (c ∷ cs) now = (between : BidderState) × IsServed bidder c between × AreServed between cs now

-- the connection ended for lack of memory
abbrev pub is_short : ConnEnd → Bool
is_short ConnEnd.Closed = false
is_short ConnEnd.Cut = false
is_short (ConnEnd.Refused fault) = false
is_short ConnEnd.ReadFault = false
is_short ConnEnd.WriteFault = false
is_short ConnEnd.Spent = false
is_short ConnEnd.OutOfMemory = true

-- one of the connections did
abbrev pub is_any_short : List Connection → Bool
is_any_short [] = false
is_any_short (c ∷ cs) = is_short c.end || is_any_short cs

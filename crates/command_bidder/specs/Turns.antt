-- What one turn of a bidder's run does. Private clauses alone cite this file.
use Rattle.std.specs.Prelude.{◌≡◌, ◌⊎◌, List, [], ◌∷◌, ◌++◌, Bool, true, false}
use Rattle.adx_links.specs.Pairs.{AcceptorTold}
use Rattle.bidder_core.specs.Seen.{BidderState}
use Rattle.command_bidder.specs.Bidding.{HasBack, HasFailed, IsOver}
use Rattle.command_bidder.specs.Connections.{AreServed, Connection, IsServed, is_any_short, is_short}
use Rattle.command_bidder.specs.declared.ending.BidEnd.{BidEnd}
use Rattle.command_bidder.specs.declared.turn.Turn.{Turn}

-- one connection was served and given back
pub record ServesNext (old new : AcceptorTold) (bidder now : BidderState) (short : Bool) : Type 0 where
  pub connection : Connection
  pub served : IsServed bidder connection now
  pub back : (cs : List Connection) → HasBack old cs → HasBack new (cs ++ connection ∷ [])
  pub short_is : is_short connection.end ≡ short
  pub faults : new.faults ≡ old.faults

-- no connection came
pub record ServesNone (old new : AcceptorTold) (bidder now : BidderState) : Type 0 where
  pub unchanged : now ≡ bidder
  pub back : (cs : List Connection) → HasBack old cs → HasBack new cs

-- what a turn did
abbrev pub TakesTurn : AcceptorTold → AcceptorTold → BidderState → BidderState → Turn → Type 0
TakesTurn old new bidder now (Turn.Served short) = ServesNext old new bidder now short
TakesTurn old new bidder now Turn.Over = ServesNone old new bidder now × IsOver old new
TakesTurn old new bidder now Turn.Failed = ServesNone old new bidder now × HasFailed old new

-- these connections were served, which left the bidder so, and the acceptor has them back
pub record HasServed (new : AcceptorTold) (bidder now : BidderState) (connections : List Connection) (short : Bool) : Type 0 where
  pub served : AreServed bidder connections now
  pub back : HasBack new connections
  pub short_is : is_any_short connections ≡ short

-- some connections were
abbrev pub HasServedSome : AcceptorTold → BidderState → BidderState → Bool → Type 0
HasServedSome new bidder now short = (cs : List Connection) × HasServed new bidder now cs short

-- how a run after the price line ended
abbrev pub EndsServing : AcceptorTold → AcceptorTold → BidderState → BidderState → BidEnd → Type 0
EndsServing old new bidder now BidEnd.Over = HasServedSome new bidder now false × IsOver old new
EndsServing old new bidder now (BidEnd.Refused why) = ⊥
EndsServing old new bidder now BidEnd.AcceptorFault = HasServedSome new bidder now false × HasFailed old new
EndsServing old new bidder now BidEnd.OutOfMemory = HasServedSome new bidder now true × (IsOver old new ⊎ HasFailed old new)

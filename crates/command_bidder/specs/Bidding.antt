-- How a bidder's run over an acceptor ended. This project's own.
use Rattle.std.specs.Prelude.{◌≡◌, ◌⊎◌, ℕ, List, [], map, Bool, true, false, IfSome}
use Rattle.adx_io.specs.Streams.{Rises}
use Rattle.adx_links.specs.Pairs.{AcceptorTold}
use Rattle.bidder_core.specs.Seen.{BidderState}
use Rattle.command_bidder.specs.Documents.{BeginsWithPrices, LacksPrices}
use Rattle.command_bidder.specs.Connections.{AreServed, Connection, is_any_short}
use Rattle.command_bidder.specs.declared.ending.BidEnd.{BidEnd}

-- the acceptor, where it reports its pairs, gave out none yet, and got back none
abbrev pub IsUnused : AcceptorTold → Type 0
IsUnused a = IfSome a.pairs (λ p. (p.out ≡ []) × (p.back ≡ []))

-- the acceptor, where it reports its pairs, gave out the pairs of these connections, and got them back in the same order
abbrev pub HasBack : AcceptorTold → List Connection → Type 0
HasBack a cs = IfSome a.pairs (λ p. (p.out ≡ map (λ (c : Connection). c.came) cs) × (p.back ≡ map (λ (c : Connection). c.left) cs))

-- the acceptor said that no more connections come, and never failed
abbrev pub IsOver : AcceptorTold → AcceptorTold → Type 0
IsOver old new = (new.is_over ≡ true) × (new.faults ≡ old.faults)

-- the acceptor failed, and its count of faults rose
abbrev pub HasFailed : AcceptorTold → AcceptorTold → Type 0
HasFailed old new = Rises old.faults new.faults

-- The document begins with a price line. Its bidder, which got no notice before, served connections one after another,
-- and the acceptor has all of them back. Whether one of them ended for lack of memory.
pub record ServesDocument (document : List ℕ) (new : AcceptorTold) (short : Bool) : Type 0 where
  pub bidder : BidderState
  pub prices : BeginsWithPrices document bidder
  pub fresh : bidder.rows ≡ []
  pub connections : List Connection
  pub bidder_now : BidderState
  pub served : AreServed bidder connections bidder_now
  pub back : HasBack new connections
  pub short_is : is_any_short connections ≡ short

-- How a bidder's run over a document and an acceptor ended. Lack of memory comes before the end of the acceptor.
abbrev pub EndsBid : List ℕ → AcceptorTold → AcceptorTold → BidEnd → Type 0
EndsBid document old new BidEnd.Over = ServesDocument document new false × IsOver old new
EndsBid document old new (BidEnd.Refused why) = LacksPrices document why × (new ≡ old)
EndsBid document old new BidEnd.AcceptorFault = ServesDocument document new false × HasFailed old new
EndsBid document old new BidEnd.OutOfMemory = (new ≡ old) ⊎ (ServesDocument document new true × (IsOver old new ⊎ HasFailed old new))

-- Connections served one after another, and how a run over them ends.
use Rattle.std.proofs.Common.{◌≡◌, ℕ, List, [], ◌∷◌, ◌++◌, Bool, true, false, ◌||◌, refl, sym, ap, ◌∙◌, subst, inr}
use Rattle.std.proofs.Math.Bool.{or-false, or_assoc}
use Rattle.adx_links.specs.Pairs.{AcceptorTold}
use Rattle.bidder_core.specs.Seen.{BidderState}
use Rattle.command_bidder.specs.Documents.{BeginsWithPrices}
use Rattle.command_bidder.specs.Bidding.{EndsBid, IsUnused, ServesDocument}
use Rattle.command_bidder.specs.Connections.{AreServed, Connection, IsServed, is_any_short, is_short}
use Rattle.command_bidder.specs.Turns.{EndsServing, HasServedSome, ServesNext, ServesNone}
use Rattle.command_bidder.specs.declared.ending.BidEnd.{BidEnd}
use Rattle.command_bidder.proofs.Returned.{none_back}

-- one more was served
pub one_more : (cs : List Connection) (c : Connection) (first mid now : BidderState) → AreServed first cs mid → IsServed mid c now → AreServed first (cs ++ c ∷ []) now
one_more [] c first mid now are is = (now, subst (λ (b : BidderState). IsServed b c now) are is, refl)
one_more (x ∷ cs) c first mid now (between, one, rest) is = (between, one, one_more cs c between mid now rest is)

-- whether one of them ended for lack of memory, once one more was served
pub short_more : (cs : List Connection) (c : Connection) → is_any_short (cs ++ c ∷ []) ≡ (is_any_short cs || is_short c.end)
short_more [] c = or-false (is_short c.end)
short_more (x ∷ cs) c = ap (λ (b : Bool). is_short x.end || b) (short_more cs c) ∙ sym (or_assoc (is_short x.end) (is_any_short cs) (is_short c.end))

-- before the first
pub none_served : (new : AcceptorTold) (bidder : BidderState) → IsUnused new → HasServedSome new bidder bidder false
none_served new bidder unused = ([], record { served = refl; back = none_back new.pairs unused; short_is = refl })

-- a turn that served one more
pub serves_more : (old new : AcceptorTold) (first bidder now : BidderState) (short wanting : Bool) →
    HasServedSome old first bidder short → ServesNext old new bidder now wanting → HasServedSome new first now (short || wanting)
serves_more old new first bidder now short wanting (cs, k) t = (
  cs ++ t.connection ∷ [],
  record {
    served = one_more cs t.connection first bidder now k.served t.served;
    back = t.back cs k.back;
    short_is = short_more cs t.connection ∙ (λ i. k.short_is i || t.short_is i);
  },
)

-- a turn in which no connection came
pub serves_none : (old new : AcceptorTold) (first bidder now : BidderState) (short : Bool) →
    HasServedSome old first bidder short → ServesNone old new bidder now → HasServedSome new first now short
serves_none old new first bidder now short (cs, k) t = (
  cs,
  record {
    served = subst (λ (b : BidderState). AreServed first cs b) (sym t.unchanged) k.served;
    back = t.back cs k.back;
    short_is = k.short_is;
  },
)

-- the whole run, by what its document begins with
serves_document : (document : List ℕ) (new : AcceptorTold) (bidder now : BidderState) (short : Bool) → BeginsWithPrices document bidder → bidder.rows ≡ [] →
    HasServedSome new bidder now short → ServesDocument document new short
serves_document document new bidder now short prices fresh (cs, k) = record {
  bidder = bidder;
  prices = prices;
  fresh = fresh;
  connections = cs;
  bidder_now = now;
  served = k.served;
  back = k.back;
  short_is = k.short_is;
}

pub ends_bid : (document : List ℕ) (old new : AcceptorTold) (bidder now : BidderState) (end : BidEnd) → BeginsWithPrices document bidder → bidder.rows ≡ [] →
    EndsServing old new bidder now end → EndsBid document old new end
ends_bid document old new bidder now BidEnd.Over prices fresh ends = (serves_document document new bidder now false prices fresh ends.0, ends.1)
ends_bid document old new bidder now (BidEnd.Refused why) prices fresh ends = absurd ends
ends_bid document old new bidder now BidEnd.AcceptorFault prices fresh ends = (serves_document document new bidder now false prices fresh ends.0, ends.1)
ends_bid document old new bidder now BidEnd.OutOfMemory prices fresh ends = inr (serves_document document new bidder now true prices fresh ends.0, ends.1)

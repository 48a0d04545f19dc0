use Rattle.std.proofs.Common.{length}
use Rattle.bid_record.proofs.OfferLists.{KeepsOffers}
use Rattle.bid_record.proofs.offers.offers_of.Given as goal

abbrev pub invariant-offers : goal.invariant-offers
invariant-offers l = KeepsOffers l.campaigns l.bytes l.left l.offers

abbrev pub decreases-offers : goal.decreases-offers
decreases-offers l = length l.left

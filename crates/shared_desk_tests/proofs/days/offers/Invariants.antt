use Rattle.std.proofs.Common.{◌≡◌, length}
use Rattle.std.specs.List.{All}
use Rattle.adx_units.specs.declared.offer.TheConstants.{ADMITTED}
use Rattle.day_rules.specs.Asks.{IsAdmittedOffer}
use Rattle.shared_desk_tests.proofs.days.offers.Given as goal

abbrev pub invariant-loop-bid : goal.invariant-loop-bid
invariant-loop-bid l =
    All (IsAdmittedOffer 2 1) l.offers.items × All (λ o. o.reason ≡ ADMITTED) l.offers.items × (length l.offers.items ≡ l.bid-index)

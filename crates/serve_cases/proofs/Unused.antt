-- An acceptor in memory that gave out no pair yet.
use Rattle.std.proofs.Common.{◌≡◌, [], ap, Some}
use Rattle.std.specs.Prelude.{map}
use Rattle.adx_links.specs.Pairs.{acceptor_told}
use Rattle.adx_links.specs.MemoryAcceptors.{AcceptorState, pair_told, pairs_of}
use Rattle.command_bidder.specs.Bidding.{IsUnused}

pub unused : (a : AcceptorState) → a.out ≡ [] → a.back ≡ [] → IsUnused (acceptor_told (λ b. b.faults) (λ b. b.over) (λ b. Some (pairs_of b)) pair_told a)
unused a out back = (ap (map pair_told) out, ap (map pair_told) back)

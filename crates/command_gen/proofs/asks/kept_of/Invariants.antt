-- The kept bids of the first offers.
use Rattle.std.proofs.Common.{◌≡◌, map}
use Rattle.std.specs.List.{range_with_len}
use Rattle.command_gen.specs.Generated.{kept_by}
use Rattle.command_gen.proofs.asks.kept_of.Given as goal

abbrev pub invariant-bids : goal.invariant-bids
invariant-bids l = l.kept.items ≡ map kept_by (range_with_len 0 l.bid)

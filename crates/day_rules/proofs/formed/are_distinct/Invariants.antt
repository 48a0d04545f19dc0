use Rattle.std.proofs.Common.{◌≡◌, drop}
use Rattle.day_rules.specs.OfferTests.{are_distinct}
use Rattle.day_rules.proofs.formed.are_distinct.Given as goal

abbrev pub invariant-loop-place : goal.invariant-loop-place
invariant-loop-place l = are_distinct l.ids ≡ are_distinct (drop l.place l.ids)

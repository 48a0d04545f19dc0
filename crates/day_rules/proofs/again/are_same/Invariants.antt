use Rattle.std.proofs.Common.{◌≡◌, ℕ, ◌<◌, get_or}
use Rattle.adx_units.specs.declared.offer.Offer.{Offer}
use Rattle.day_rules.proofs.again.are_same.Given as goal

abbrev pub invariant-loop-place : goal.invariant-loop-place
invariant-loop-place l = (k : ℕ) (d : Offer) → k < l.place → (get_or l.offers k d).reason ≡ (get_or l.others k d).reason

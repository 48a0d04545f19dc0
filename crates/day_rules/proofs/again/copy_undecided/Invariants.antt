use Rattle.std.proofs.Common.{◌≡◌, ℕ, ◌<◌, get_or, length}
use Rattle.adx_units.specs.declared.offer.Offer.{Offer}
use Rattle.day_rules.specs.Asks.{admitted_again}
use Rattle.day_rules.proofs.again.copy_undecided.Given as goal

abbrev pub invariant-loop-place : goal.invariant-loop-place
invariant-loop-place l = record {
  long : length l.again ≡ length l.offers;
  copied : (k : ℕ) (d : Offer) → k < l.place → get_or l.again k d ≡ admitted_again (get_or l.offers k d);
}

use Rattle.std.proofs.Common.{◌≡◌, ◌≤◌, length, take}
use Rattle.day_rules.specs.Books.{awarded_offers}
use Rattle.day_machine.proofs.sales.count_of_imp.Given as goal

abbrev pub invariant-loop-offer : goal.invariant-loop-offer
invariant-loop-offer l = record {
  count : l.count ≡ length (awarded_offers (take l.offer-index l.offers) l.imp);
  few : l.count ≤ l.offer-index;
}

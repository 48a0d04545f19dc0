-- The awards among the front of the bids were written and counted.
use Rattle.std.proofs.Common.{◌≡◌, ◌+◌, ◌≤◌, ◌++◌, take, length, string_bytes}
use Rattle.day_rules.specs.Books.{awarded_offers}
use Rattle.answer_lines.specs.Steps.{awards_behind}
use Rattle.answer_lines.proofs.awards.push_imp_awards.Given as goal

abbrev pub invariant-loop-offer : goal.invariant-loop-offer
invariant-loop-offer l = record {
  written : string_bytes l.out ≡ string_bytes l.initial.out ++ awards_behind l.campaigns l.ask l.others (awarded_offers (take l.offer-index l.ask.offers) l.imp);
  counted : l.count ≡ l.others + length (awarded_offers (take l.offer-index l.ask.offers) l.imp);
  few : l.count ≤ length (string_bytes l.out);
}

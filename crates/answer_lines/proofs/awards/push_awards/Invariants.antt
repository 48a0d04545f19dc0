-- The awards of the impressions so far were written and counted.
use Rattle.std.proofs.Common.{◌≡◌, ◌≤◌, ◌++◌, length, string_bytes}
use Rattle.std.specs.List.{flat_map, range_with_len}
use Rattle.day_rules.specs.Books.{awarded_offers}
use Rattle.answer_lines.specs.Steps.{awards_behind}
use Rattle.answer_lines.proofs.awards.push_awards.Given as goal

abbrev pub invariant-loop-imp : goal.invariant-loop-imp
invariant-loop-imp l = record {
  written : string_bytes l.out ≡ string_bytes l.initial.out ++ awards_behind l.campaigns l.ask 0 (flat_map (awarded_offers l.ask.offers) (range_with_len 0 l.imp));
  counted : l.count ≡ length (flat_map (awarded_offers l.ask.offers) (range_with_len 0 l.imp));
  few : l.count ≤ length (string_bytes l.out);
}

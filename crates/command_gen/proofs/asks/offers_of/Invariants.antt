-- The offers of the first words.
use Rattle.std.proofs.Common.{◌≡◌, ◌+◌, ℕ, map}
use Rattle.std.specs.List.{range_with_len}
use Rattle.command_gen.specs.Generated.{offer_by, state_before, word_at}
use Rattle.command_gen.proofs.asks.offers_of.Given as goal

abbrev pub invariant-offers : goal.invariant-offers
invariant-offers l = record {
  state : (seed number : ℕ) → l.fn.words ≡ state_before seed number → l.words ≡ state_before seed (number + l._place);
  made : (seed number : ℕ) → l.fn.words ≡ state_before seed number → l.offers.items ≡ map (λ place. offer_by (word_at seed (number + place))) (range_with_len 0 l._place);
}

-- One word more.
use Rattle.std.proofs.Common.{◌≡◌, ◌∙◌, ℕ, ◌+◌, [], ◌∷◌, ◌++◌, sym, ap, arith}
use Rattle.std.proofs.lemmas.List.FromFn.{map-range_with_len_more}
use Rattle.adx_units.specs.declared.offer.Offer.{Offer}
use Rattle.command_gen.specs.Generated.{offer_by, state_before, word_at}
use Rattle.command_gen.proofs.asks.offers_of.Goals as goal

pub offers-preserved : goal.offers-preserved
offers-preserved c =
    let place = c.offers._place in
    record {
      state = λ seed number at.
          let next = c.next_word.ensures seed (number + place) (c.offers.invariant.state seed number at) in
          let count : (number + place) + 1 ≡ number + (place + 1) = omega arith in
          next.1 ∙ ap (state_before seed) count;
      made = λ seed number at.
          let next = c.next_word.ensures seed (number + place) (c.offers.invariant.state seed number at) in
          let f : ℕ → Offer = λ k. offer_by (word_at seed (number + k)) in
          let first : 0 + place ≡ place = omega arith in
          c.in_ok-push.ensures.items
          ∙ (λ i. c.offers.invariant.made seed number at i ++ (c.offer_of.ensures ∙ ap offer_by next.0) i ∷ [])
          ∙ sym (map-range_with_len_more f 0 place place first);
    }

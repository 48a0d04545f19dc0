-- One bid more.
use Rattle.std.proofs.Common.{◌≡◌, ◌∙◌, ◌+◌, [], ◌∷◌, ◌++◌, sym, arith}
use Rattle.std.proofs.lemmas.List.FromFn.{map-range_with_len_more}
use Rattle.command_gen.specs.Generated.{kept_by}
use Rattle.command_gen.proofs.asks.kept_of.Goals as goal

pub bids-preserved : goal.bids-preserved
bids-preserved c =
    let first : 0 + c.bids.bid ≡ c.bids.bid = omega arith in
    c.in_ok-push.ensures.items
    ∙ (λ i. c.bids.invariant i ++ c.in_ok-no_texts.ensures i ∷ [])
    ∙ sym (map-range_with_len_more kept_by 0 c.bids.bid c.bids.bid first)

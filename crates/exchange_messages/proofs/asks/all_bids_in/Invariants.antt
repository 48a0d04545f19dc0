-- The bids of the answers that were taken were gathered.
use Rattle.std.proofs.Common.{◌≡◌, ◌++◌, List, map, vec_len}
use mathlib.Core.List.{reverse}
use Rattle.fan_out.specs.declared.answer.BidderAnswer.{BidderAnswer}
use Rattle.exchange_messages.specs.Turns.{given_by}
use Rattle.exchange_messages.proofs.asks.all_bids_in.Given as goal

abbrev pub invariant-answers : goal.invariant-answers
invariant-answers l =
    (taken : List BidderAnswer)
    × (taken ++ reverse l.left.items ≡ l.fn.answers.items)
    × (l.given.items ≡ map given_by taken)

abbrev pub decreases-answers : goal.decreases-answers
decreases-answers l = vec_len l.left

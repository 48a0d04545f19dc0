use Rattle.std.proofs.Common.{◌≡◌, ◌≤◌, ◌*◌, ◌++◌, List, Option, length, vec_len}
use mathlib.Core.List.{reverse}
use Rattle.rtb_response.specs.declared.bid_answer.BidAnswer.{BidAnswer}
use Rattle.script_lines.specs.Making.{all_bids}
use Rattle.script_lines.specs.Parts.{AreOf}
use Rattle.script_lines.proofs.making.make_ask.Given as goal

-- the bids of the answers that were taken stand there, at most 64 of each
abbrev pub invariant-answers : goal.invariant-answers
invariant-answers l =
    (taken : List (Option BidAnswer))
    × (taken ++ reverse l.left.items ≡ l.fn.answers.items)
    × (l.bidder ≡ length taken)
    × (length l.bids.offers.items ≤ 64 * l.bidder)
    × AreOf l.request l.roster.campaigns (all_bids taken) l.bids.offers.items l.bids.kept.items

abbrev pub decreases-answers : goal.decreases-answers
decreases-answers l = vec_len l.left

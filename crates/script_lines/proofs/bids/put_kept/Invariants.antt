use Rattle.std.proofs.Common.{◌≡◌, ◌+◌, ◌++◌, ℕ, List, length, map, vec_len}
use Rattle.std.specs.List.{enumerate_from}
use mathlib.Core.List.{reverse}
use Rattle.rtb_response.specs.declared.bid.Bid.{Bid}
use Rattle.rtb_response.specs.declared.bid_answer.SeatBid.{SeatBid}
use Rattle.script_lines.specs.Making.{seated, kept_of}
use Rattle.script_lines.proofs.bids.put_kept.Given as goal

-- the texts of the bids that were taken stand there
abbrev pub invariant-bids : goal.invariant-bids
invariant-bids l =
    (taken : List Bid)
    × (taken ++ reverse l.left.items ≡ l.fn.bids.items)
    × (l.place ≡ l.fn.first + length taken)
    × ((bidder : ℕ) (s : SeatBid) → s.seat ≡ l.seat → l.kept.items ≡ l.initial.kept.items ++ map kept_of (enumerate_from l.fn.first (map (seated bidder l.bidid s) taken)))

abbrev pub decreases-bids : goal.decreases-bids
decreases-bids l = vec_len l.left

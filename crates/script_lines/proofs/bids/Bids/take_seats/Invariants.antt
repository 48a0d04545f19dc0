use Rattle.std.proofs.Common.{◌≡◌, ◌+◌, ◌++◌, List, length, vec_len}
use Rattle.std.specs.List.{flat_map}
use mathlib.Core.List.{reverse}
use Rattle.rtb_response.specs.declared.bid_answer.SeatBid.{SeatBid}
use Rattle.script_lines.specs.Making.{SeatedBid, bids_of_seat}
use Rattle.script_lines.specs.Parts.{AreOf}
use Rattle.script_lines.proofs.bids.Bids.take_seats.Given as goal

-- the bids of the seats that were taken stand behind what was taken before
abbrev pub invariant-seats : goal.invariant-seats
invariant-seats l =
    (taken : List SeatBid)
    × (taken ++ reverse l.left.items ≡ l.fn.answer.seats)
    × (length l.self.offers.items ≡ length l.initial.self.offers.items + length (flat_map (bids_of_seat l.bidder l.fn.answer.bidid) taken))
    × ((bids : List SeatedBid) → AreOf l.sale.request.now l.sale.roster.now.campaigns bids l.initial.self.offers.items l.initial.self.kept.items
    → AreOf l.sale.request.now l.sale.roster.now.campaigns (bids ++ flat_map (bids_of_seat l.bidder l.fn.answer.bidid) taken) l.self.offers.items l.self.kept.items)

abbrev pub decreases-seats : goal.decreases-seats
decreases-seats l = vec_len l.left

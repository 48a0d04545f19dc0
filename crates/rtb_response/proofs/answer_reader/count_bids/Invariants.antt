use Rattle.std.proofs.Common.{◌≡◌, ◌≤◌, ◌+◌, drop, min}
use Rattle.std.specs.List.{list_all}
use Rattle.adx_json.specs.View.{trees_of}
use Rattle.rtb_response.specs.Answers.{bid_count}
use Rattle.rtb_response.specs.Seats.{has_bids}
use Rattle.rtb_response.proofs.answer_reader.count_bids.Given as goal

-- the count so far and that of what is left are that of all seats, and the seats that are left tell whether all have bids
abbrev pub invariant-loop-seat : goal.invariant-loop-seat
invariant-loop-seat l =
    let left = trees_of (drop l.seat-index l.seats) in
    record {
      small : l.count ≤ 65;
      count : min (l.count + bid_count left) 65 ≡ min (bid_count (trees_of l.seats)) 65;
      each : list_all has_bids left ≡ list_all has_bids (trees_of l.seats);
    }

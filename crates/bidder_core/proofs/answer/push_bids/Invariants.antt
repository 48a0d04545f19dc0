use Rattle.std.proofs.Common.{◌≡◌, ◌≤◌, ◌++◌, length, take, drop}
use Rattle.std.specs.List.{enumerate_from, flat_map}
use Rattle.adx_json.specs.View.{trees_of}
use Rattle.bidder_core.specs.Answers.{offered}
use Rattle.bidder_core.specs.declared.answer.TheConstants.{MOST_BIDS}
use Rattle.bidder_core.proofs.answer.push_bids.Given as goal

-- the bids so far and those at the prices that are left give all of them
abbrev pub invariant-loop-place : goal.invariant-loop-place
invariant-loop-place l =
    let f = offered l.line l.imp_place l.imp in
    record {
      few : length l.bids.items ≤ MOST_BIDS;
      bids : take MOST_BIDS (trees_of l.bids.items ++ flat_map f (enumerate_from l.place (drop l.place l.prices))) ≡ take MOST_BIDS (trees_of l.initial.bids.items ++ flat_map f (enumerate_from 0 l.prices));
    }

use Rattle.std.proofs.Common.{◌≡◌, ℕ, ◌<◌, [], None, drop, get_or, length, option_map}
use Rattle.adx_json.specs.Tree.{members_of}
use Rattle.adx_json.specs.Named.{value_of}
use Rattle.adx_json.specs.View.{tree_of, members_view}
use Rattle.adx_json.specs.Walks.{found_or}
use Rattle.rtb_response.specs.BidNames.{bid_names}
use Rattle.rtb_response.proofs.bid_reader.bid_members.Given as goal

-- what was found under each name and what is left give what all members give
abbrev pub invariant-loop-member : goal.invariant-loop-member
invariant-loop-member l =
    let left = members_of (members_view (drop l.member-index l.member-items)) in
    let all = members_of (members_view l.member-items) in
    record {
      twelve : length l.found ≡ 12;
      each : (k : ℕ) → k < 12
          → found_or (get_or bid_names k []) (option_map (λ t. tree_of t.now) (get_or l.found k None)) left ≡ value_of (get_or bid_names k []) all;
    }

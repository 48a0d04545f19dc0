use Rattle.std.proofs.Common.{◌≡◌, ℕ, ◌<◌, List, length, drop, get_or, None, option_map, Bor}
use Rattle.adx_json.specs.Tree.{members_of}
use Rattle.adx_json.specs.Named.{value_of}
use Rattle.adx_json.specs.View.{tree_of, members_view}
use Rattle.adx_json.specs.Walks.{found_or}
use Rattle.adx_json.proofs.member.find_members.Given as goal

-- what was found for each name and what is left give what all members give
abbrev pub invariant-loop-member : goal.invariant-loop-member
invariant-loop-member l =
    (k : ℕ) (n : Bor (List ℕ)) → k < length l.names → n ≡ get_or l.names k n
    → found_or n.now (option_map (λ t. tree_of t.now) (get_or l.found k None)) (members_of (members_view (drop l.member-index l.member-items)))
    ≡ value_of n.now (members_of (members_view l.member-items))

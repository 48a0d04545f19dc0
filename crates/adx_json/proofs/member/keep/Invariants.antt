use Rattle.std.proofs.Common.{◌≡◌, ℕ, ◌<◌, ◌≤◌, List, get_or, None, option_map, Bor}
use Rattle.adx_json.specs.View.{tree_of, member_of}
use Rattle.adx_json.specs.Walks.{with_member}
use Rattle.adx_json.proofs.member.keep.Given as goal

-- the places before are those with the member, and the others are as they were
abbrev pub invariant-loop-place : goal.invariant-loop-place
invariant-loop-place l =
    record {
      done : (k : ℕ) (n : Bor (List ℕ)) → k < l.place → n ≡ get_or l.names k n
          → option_map (λ t. tree_of t.now) (get_or l.found k None) ≡ with_member n.now (option_map (λ t. tree_of t.now) (get_or l.initial.found k None)) (member_of l.member);
      left : (k : ℕ) → l.place ≤ k → get_or l.found k None ≡ get_or l.initial.found k None;
    }

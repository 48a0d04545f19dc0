use Rattle.std.proofs.Common.{◌≡◌, ℕ, ◌<◌, ◌≤◌, get_or, None, option_map}
use Rattle.adx_json.specs.View.{tree_of}
use Rattle.adx_json.specs.Values.{not_null}
use Rattle.adx_json.proofs.member.leave_out_nulls.Given as goal

-- the places before have no null, and the others are as they were
abbrev pub invariant-loop-place : goal.invariant-loop-place
invariant-loop-place l =
    record {
      done : (k : ℕ) → k < l.place → option_map (λ t. tree_of t.now) (get_or l.found k None) ≡ not_null (option_map (λ t. tree_of t.now) (get_or l.initial.found k None));
      left : (k : ℕ) → l.place ≤ k → get_or l.found k None ≡ get_or l.initial.found k None;
    }

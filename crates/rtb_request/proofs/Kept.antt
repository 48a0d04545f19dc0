-- What bidders are asked is as well formed as the request, and hardly deeper.
use Rattle.std.proofs.Common.{ℕ, ◌≤◌, max, List, Bool, true, false, cond, bytes_eq, codes, refl, arith}
use Rattle.adx_json.specs.Tree.{Tree, null, boolean, number, text, list, object, Members, no_members, member, levels, members_levels}
use Rattle.adx_json.specs.Named.{with_member, with_value}
use Rattle.adx_json.specs.WellFormed.{IsWellFormed}
use Rattle.adx_json.proofs.PutMembers.{put_well_formed}
use Rattle.rtb_request.specs.ForBidders.{one}

-- a change keeps trees well formed, and makes none deeper
abbrev Keeps : (Tree → Tree) → Type 0
Keeps f = (t : Tree) → (IsWellFormed t → IsWellFormed (f t)) × (levels (f t) ≤ levels t)

put_value_at : (b : Bool) (n name : List ℕ) (t u : Tree) (ms : Members) → members_levels (with_value name t ms) ≤ max (levels t) (members_levels ms)
    → members_levels (cond b (member n t ms) (member n u (with_value name t ms))) ≤ max (levels t) (max (levels u) (members_levels ms))
put_value_at true n name t u ms h = omega arith
put_value_at false n name t u ms h = omega arith

put_value : (name : List ℕ) (t : Tree) (ms : Members) → members_levels (with_value name t ms) ≤ max (levels t) (members_levels ms)
put_value name t no_members = omega arith
put_value name t (member n u ms) = put_value_at (bytes_eq n name) n name t u ms (put_value name t ms)

one_put : (t : Tree) → levels (with_member (codes "at") one t) ≤ levels t
one_put null = omega arith
one_put (boolean b) = omega arith
one_put (number n) = omega arith
one_put (text x) = omega arith
one_put (list ts) = omega arith
one_put (object ms) = let low = put_value (codes "at") one ms in omega arith

one_keeps : Keeps (with_member (codes "at") one)
one_keeps t = (λ h. put_well_formed (codes "at") one t h refl, one_put t)

deal_at : (b : Bool) (t : Tree)
    → (IsWellFormed t → IsWellFormed (cond b t (with_member (codes "at") one t))) × (levels (cond b t (with_member (codes "at") one t)) ≤ levels t)
deal_at true t = (λ h. h, omega arith)
deal_at false t = one_keeps t

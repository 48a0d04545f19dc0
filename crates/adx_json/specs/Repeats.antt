-- Members whose names come again later in their object. Only the crate's private clauses cite it.
use Rattle.std.specs.Prelude.{◌≡◌, ℕ, ◌+◌, ◌*◌, ◌%◌, ◌^◌, List, [], ◌∷◌, Bool, not, drop}
use Rattle.adx_json.specs.Tree.{members_of}
use Rattle.adx_json.specs.Grammar.{has_name}
use Rattle.adx_json.specs.View.{member_of, members_view}
use Rattle.adx_json.specs.declared.tree.Member.{Member}

-- the member at the place, those after it, and whether one of these has its name
pub record ComesAgain (members : List Member) (at : ℕ) (again : Bool) : Type 0 where
  pub member : Member
  pub later : List Member
  pub whole : drop at members ≡ member ∷ later
  pub is : again ≡ has_name (member_of member).0 (members_of (members_view later))

-- of each member whether no one after it has its name
abbrev pub stays : List Member → List Bool
stays [] = []
stays (m ∷ later) = not (has_name (member_of m).0 (members_of (members_view later))) ∷ stays later

-- the number that a name is marked with: one step, and all of them
abbrev pub mark_behind : ℕ → ℕ → ℕ
mark_behind mark byte = ((mark + byte) % 2 ^ 64 * 1099511628211) % 2 ^ 64

abbrev pub mark_from : ℕ → List ℕ → ℕ
mark_from mark [] = mark
mark_from mark (b ∷ bs) = mark_from (mark_behind mark b) bs

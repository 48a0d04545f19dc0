-- One walk over an object's members finds the first value under each name.
use Rattle.std.proofs.Common.{◌≡◌, ℕ, ◌+◌, ◌<◌, List, drop, get_or, length, Bool, true, false, cond, Option, Some, None, bytes_eq, refl, sym, ap, ◌∙◌, drop-cons, add-one, suc, ◌≤◌}
use Rattle.std.proofs.lemmas.List.{at_drop_all}
use Rattle.adx_json.specs.Tree.{Tree, null, boolean, number, text, list, object, Members, no_members, member, members_of}
use Rattle.adx_json.specs.Named.{value_of, member_in}
use Rattle.adx_json.specs.View.{member_of, members_view}
use Rattle.adx_json.specs.declared.tree.Member.{Member}
use Rattle.adx_json.specs.Walks.{members_by, with_member, found_or}

met_by : (name : List ℕ) (t : Tree) (ms : Members) (b : Bool) → found_or name (cond b (Some t) None) ms ≡ cond b (Some t) (value_of name ms)
met_by name t ms true = refl
met_by name t ms false = refl

-- a member that is met, or still left
pub met_more : (name : List ℕ) (found : Option Tree) (m : List ℕ × Tree) (ms : Members) → found_or name (with_member name found m) ms ≡ found_or name found (member m.0 m.1 ms)
met_more name None m ms = met_by name m.1 ms (bytes_eq m.0 name)
met_more name (Some t) m ms = refl

-- one step of the walk
pub met_step : (name : List ℕ) (before after whole : Option Tree) (items : List Member) (i : ℕ) (m : Member) → i < length items → m ≡ get_or items i m → after ≡ with_member name before (member_of m) → found_or name before (members_of (members_view (drop i items))) ≡ whole → found_or name after (members_of (members_view (drop (i + 1) items))) ≡ whole
met_step name before after whole items i m low item is h =
    let left = members_of (members_view (drop (suc i) items)) in
    ap (λ n. found_or name after (members_of (members_view (drop n items)))) (add-one i)
    ∙ ap (λ a. found_or name a left) is
    ∙ met_more name before (member_of m) left
    ∙ ap (λ x. found_or name before (member (member_of x).0 (member_of x).1 left)) item
    ∙ ap (λ ms. found_or name before (members_of (members_view ms))) (sym (drop-cons items i m low)) ∙ h

-- the walk's end
pub met_all : (name : List ℕ) (found : Option Tree) → found_or name found no_members ≡ found
met_all name None = refl
met_all name (Some t) = refl

pub members_found : (name : List ℕ) (t : Tree) → value_of name (members_by t) ≡ member_in name t
members_found name null = refl
members_found name (boolean b) = refl
members_found name (number n) = refl
members_found name (text t) = refl
members_found name (list ts) = refl
members_found name (object ms) = refl

-- after the last member, what was found is the value of the tree's member
pub all_met : (name : List ℕ) (t : Tree) (items : List Member) (i : ℕ) (found : Option Tree) → length items ≤ i → members_of (members_view items) ≡ members_by t → found_or name found (members_of (members_view (drop i items))) ≡ value_of name (members_of (members_view items)) → found ≡ member_in name t
all_met name t items i found end is h =
    sym (met_all name found)
    ∙ sym (at_drop_all (λ left. found_or name found (members_of (members_view left))) items i end)
    ∙ h ∙ ap (value_of name) is ∙ members_found name t

-- Members that are looked up by their names.
use Rattle.std.proofs.Common.{◌≡◌, ℕ, zero, suc, ◌+◌, ◌<◌, ◌≤◌, List, [], ◌∷◌, ◌++◌, length, get_or, set, Bool, true, false, cond, not, Some, None, refl, sym, ap, ap₂, ◌∙◌, subst, arith, ltb, position}
use Rattle.std.proofs.lemmas.Bool.{ltb-true, ltb-false, cond-true, cond-false}
use Rattle.std.specs.List.{position_or_len}
use Rattle.std.specs.Str.{bytes_eq}
use Rattle.adx_json.specs.Tree.{Tree, no_members, member, members_of}
use Rattle.adx_json.specs.Named.{value_of, with_value}
use Rattle.adx_json.specs.View.{tree_of, member_of, members_view}
use Rattle.adx_json.specs.declared.tree.Member.{Member, out-Member}
use Rattle.adx_json.proofs.Names.{has_name_of, name_is}
use Rattle.adx_json.proofs.Views.{member_of_parts}

-- the first member with the name is at that place
abbrev pub FirstAt : List ℕ → List Member → ℕ → Type 0
FirstAt name [] at = ⊥
FirstAt name (m ∷ ms) zero = has_name_of name m ≡ true
FirstAt name (m ∷ ms) (suc at) = (has_name_of name m ≡ false) × FirstAt name ms at

-- no member has the name
abbrev pub NoneHas : List ℕ → List Member → Type 0
NoneHas name [] = Unit {0}
NoneHas name (m ∷ ms) = (has_name_of name m ≡ false) × NoneHas name ms

first_step : (name : List ℕ) (m : Member) (ms : List Member) (n : ℕ) (b : Bool) → has_name_of name m ≡ b → (n < length ms → FirstAt name ms n) → cond (not b) (1 + n) 0 < length (m ∷ ms) → FirstAt name (m ∷ ms) (cond (not b) (1 + n) 0)
first_step name m ms n true e later low = e
first_step name m ms n false e later low =
    let one : suc n ≡ 1 + n = omega arith in
    subst (FirstAt name (m ∷ ms)) one (e, later (omega arith))

first_place : (name : List ℕ) (ms : List Member) → position_or_len (has_name_of name) ms < length ms → FirstAt name ms (position_or_len (has_name_of name) ms)
first_place name [] low = absurd (omega arith)
first_place name (m ∷ ms) low = first_step name m ms (position_or_len (has_name_of name) ms) (has_name_of name m) refl (first_place name ms) low

none_step : (name : List ℕ) (m : Member) (ms : List Member) (n : ℕ) (b : Bool) → has_name_of name m ≡ b → (length ms ≤ n → NoneHas name ms) → length (m ∷ ms) ≤ cond (not b) (1 + n) 0 → NoneHas name (m ∷ ms)
none_step name m ms n true e later low = absurd (omega arith)
none_step name m ms n false e later low = (e, later (omega arith))

none_place : (name : List ℕ) (ms : List Member) → length ms ≤ position_or_len (has_name_of name) ms → NoneHas name ms
none_place name [] low = tt
none_place name (m ∷ ms) low = none_step name m ms (position_or_len (has_name_of name) ms) (has_name_of name m) refl (none_place name ms) low

place_some : (b : Bool) (n i len : ℕ) → ltb n len ≡ b → cond b (Some n) None ≡ Some i → (n ≡ i) × (n < len)
place_some true n i len e h = let same : n ≡ i = cc in (same, ltb-true n len e)
place_some false n i len e h = cc

place_none : (b : Bool) (n len : ℕ) → ltb n len ≡ b → cond b (Some n) None ≡ None → len ≤ n
place_none true n len e h = cc
place_none false n len e h = ltb-false n len e

pub found_first : (name : List ℕ) (ms : List Member) (at : ℕ) → position (has_name_of name) ms ≡ Some at → FirstAt name ms at
found_first name ms at e =
    let k = place_some _ (position_or_len (has_name_of name) ms) at (length ms) refl e in
    subst (FirstAt name ms) k.0 (first_place name ms k.1)

pub found_none : (name : List ℕ) (ms : List Member) → position (has_name_of name) ms ≡ None → NoneHas name ms
found_none name ms e = none_place name ms (place_none _ (position_or_len (has_name_of name) ms) (length ms) refl e)

test_is : (name : List ℕ) (m : Member) (b : Bool) → has_name_of name m ≡ b → bytes_eq (member_of m).0 name ≡ b
test_is name m b e = ap (λ n. bytes_eq n name) (sym (name_is m)) ∙ e

-- the value there
pub value_at : (name : List ℕ) (ms : List Member) (at : ℕ) (d : Member) → FirstAt name ms at → value_of name (members_of (members_view ms)) ≡ Some (tree_of (out-Member (get_or ms at d)).value)
value_at name [] at d h = absurd h
value_at name (m ∷ ms) zero d h = cond-true _ _ _ (test_is name m true h) ∙ ap (λ x. Some x.1) (member_of_parts m)
value_at name (m ∷ ms) (suc at) d h = cond-false _ _ _ (test_is name m false h.0) ∙ value_at name ms at d h.1

pub value_none : (name : List ℕ) (ms : List Member) → NoneHas name ms → value_of name (members_of (members_view ms)) ≡ None
value_none name [] h = refl
value_none name (m ∷ ms) h = cond-false _ _ _ (test_is name m false h.0) ∙ value_none name ms h.1

-- the value there replaced
pub put_at : (name : List ℕ) (t : Tree) (ms : List Member) (at : ℕ) (d new : Member) → FirstAt name ms at → (member_of new).0 ≡ (member_of (get_or ms at d)).0 → (member_of new).1 ≡ t → members_of (members_view (set ms at new)) ≡ with_value name t (members_of (members_view ms))
put_at name t [] at d new h n v = absurd h
put_at name t (m ∷ ms) zero d new h n v = ap₂ (λ k x. member k x (members_of (members_view ms))) n v ∙ sym (cond-true _ _ _ (test_is name m true h))
put_at name t (m ∷ ms) (suc at) d new h n v = ap (member (member_of m).0 (member_of m).1) (put_at name t ms at d new h.1 n v) ∙ sym (cond-false _ _ _ (test_is name m false h.0))

-- a member at the end
pub put_end : (name : List ℕ) (t : Tree) (ms : List Member) (new : Member) → NoneHas name ms → (member_of new).0 ≡ name → (member_of new).1 ≡ t → members_of (members_view (ms ++ new ∷ [])) ≡ with_value name t (members_of (members_view ms))
put_end name t [] new h n v = ap₂ (λ k x. member k x no_members) n v
put_end name t (m ∷ ms) new h n v = ap (member (member_of m).0 (member_of m).1) (put_end name t ms new h.1 n v) ∙ sym (cond-false _ _ _ (test_is name m false h.0))

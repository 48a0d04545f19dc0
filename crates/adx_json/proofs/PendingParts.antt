-- Items and members that wait for the end of their list or object, after those of the lists and objects around it.
use Rattle.std.proofs.Common.{◌≡◌, ◌≢◌, ℕ, suc, ◌+◌, ◌≤◌, List, [], ◌∷◌, ◌++◌, length, take, drop, Some, refl, sym, ap, ◌∙◌, subst, arith, append_assoc, append-nil, length-append}
use Rattle.std.proofs.lemmas.List.{map-append}
use Rattle.adx_json.specs.Tree.{items_of, members_of}
use Rattle.adx_json.specs.Machine.{Frame, at_value, at_first_item, at_first_name, at_name, stop_of}
use Rattle.adx_json.specs.Found.{StopsAt, StopsInside, FoundElement, FoundItems, FoundMember, FoundMembers}
use Rattle.adx_json.specs.View.{tree_of, trees_of, member_of, members_view}
use Rattle.adx_json.specs.declared.tree.Json.{Json}
use Rattle.adx_json.specs.declared.tree.Member.{Member}
use Rattle.adx_json.specs.declared.fault.Stop.{Stop}
use Rattle.adx_json.specs.declared.fault.Stop.TheVariants.{Syntax}
use Rattle.adx_json.proofs.ReadItems.{ItemsSoFar, items_more, items_end, items_refused, items_unended}
use Rattle.adx_json.proofs.ReadMembers.{MembersSoFar, members_more, members_end, members_refused, members_unended}

-- one more at the end
pushed : {A : Type 0} (old these before mid now : List A) (x : A) → before ≡ old ++ these → mid ≡ before → now ≡ mid ++ x ∷ [] → now ≡ old ++ (these ++ x ∷ [])
pushed old these before mid now x e kept push = push ∙ ap (λ l. l ++ x ∷ []) (kept ∙ e) ∙ append_assoc old these (x ∷ [])

take_old : {A : Type 0} (old these : List A) → take (length old) (old ++ these) ≡ old
take_old [] these = refl
take_old (x ∷ old) these = ap (λ l. x ∷ l) (take_old old these)

drop_old : {A : Type 0} (old these : List A) → drop (length old) (old ++ these) ≡ these
drop_old [] these = refl
drop_old (x ∷ old) these = drop_old old these

-- the items of a list so far, after the old ones
pub record ItemsPending (n : ℕ) (bytes : List ℕ) (old now : List Json) (left : List ℕ) : Type 0 where
  pub these : List Json
  pub split : now ≡ old ++ these
  pub so_far : ItemsSoFar n bytes (trees_of these) left

pub items_begin : (n : ℕ) (bytes : List ℕ) (old : List Json) (left : List ℕ) → ItemsSoFar n bytes [] left → ItemsPending n bytes old old left
items_begin n bytes old left s = record { these = []; split = sym (append-nil old); so_far = s }

pub items_go_on : (n : ℕ) (bytes : List ℕ) (old before mid now : List Json) (left : List ℕ) (x : Json) (rest more : List ℕ) → ItemsPending n bytes old before left → mid ≡ before → now ≡ mid ++ x ∷ [] → FoundElement n left (tree_of x) rest → rest ≡ 44 ∷ more → ItemsPending n bytes old now more
items_go_on n bytes old before mid now left x rest more s kept push found comma = record {
  these = s.these ++ x ∷ [];
  split = pushed old s.these before mid now x s.split kept push;
  so_far = subst (λ ts. ItemsSoFar n bytes ts more) (sym (map-append tree_of s.these (x ∷ []))) (items_more n bytes (trees_of s.these) left (tree_of x) rest more s.so_far found comma);
}

-- the list takes its own
pub items_taken : (n : ℕ) (bytes : List ℕ) (old before mid now tail : List Json) (begun : ℕ) (left : List ℕ) (x : Json) (rest end : List ℕ) → ItemsPending n bytes old before left → mid ≡ before → now ≡ mid ++ x ∷ [] → FoundElement n left (tree_of x) rest → rest ≡ 93 ∷ end → begun ≡ length old → tail ≡ drop begun now → FoundItems n bytes (items_of (trees_of tail)) end
items_taken n bytes old before mid now tail begun left x rest end s kept push found close at cut =
    let all = pushed old s.these before mid now x s.split kept push in
    let own : tail ≡ s.these ++ x ∷ [] = cut ∙ ap (λ k. drop k now) at ∙ ap (drop (length old)) all ∙ drop_old old (s.these ++ x ∷ []) in
    subst (λ ts. FoundItems n bytes (items_of ts) end) (sym (ap trees_of own ∙ map-append tree_of s.these (x ∷ []))) (items_end n bytes (trees_of s.these) left (tree_of x) rest end s.so_far found close)

-- and leaves the old ones
pub items_left : (n : ℕ) (bytes : List ℕ) (old before mid now : List Json) (begun : ℕ) (left : List ℕ) (x : Json) → ItemsPending n bytes old before left → mid ≡ before → now ≡ mid ++ x ∷ [] → begun ≡ length old → take begun now ≡ old
items_left n bytes old before mid now begun left x s kept push at = ap (λ k. take k now) at ∙ ap (take (length old)) (pushed old s.these before mid now x s.split kept push) ∙ take_old old (s.these ++ x ∷ [])

pub items_within : (n : ℕ) (bytes : List ℕ) (old before mid now : List Json) (begun : ℕ) (left : List ℕ) (x : Json) → ItemsPending n bytes old before left → mid ≡ before → now ≡ mid ++ x ∷ [] → begun ≡ length old → begun ≤ length now
items_within n bytes old before mid now begun left x s kept push at =
    let long : length now ≡ length old + length (s.these ++ x ∷ []) = ap length (pushed old s.these before mid now x s.split kept push) ∙ length-append old (s.these ++ x ∷ []) in
    omega arith

pub items_stop : (n : ℕ) (bytes : List ℕ) (old now : List Json) (left : List ℕ) (e : Stop) → ItemsPending n bytes old now left → StopsAt e n at_value left → StopsInside e n at_first_item bytes
items_stop n bytes old now left e s h = items_refused n bytes (trees_of s.these) left e s.so_far h

pub items_lack : (n : ℕ) (bytes : List ℕ) (old now : List Json) (left : List ℕ) (x : Json) (rest : List ℕ) → ItemsPending n bytes old now left → FoundElement n left (tree_of x) rest → ((more : List ℕ) → rest ≢ 44 ∷ more) → ((more : List ℕ) → rest ≢ 93 ∷ more) → (fs : List Frame) → suc (length fs) + n ≡ 64 → stop_of 64 at_first_item fs bytes ≡ Some (Syntax (length rest))
items_lack n bytes old now left x rest s found comma close = items_unended n bytes (trees_of s.these) left (tree_of x) rest s.so_far found comma close

-- the members of an object so far, after the old ones
pub record MembersPending (n : ℕ) (bytes : List ℕ) (old now : List Member) (left : List ℕ) : Type 0 where
  pub these : List Member
  pub split : now ≡ old ++ these
  pub so_far : MembersSoFar n bytes (members_view these) left

pub members_begin : (n : ℕ) (bytes : List ℕ) (old : List Member) (left : List ℕ) → MembersSoFar n bytes [] left → MembersPending n bytes old old left
members_begin n bytes old left s = record { these = []; split = sym (append-nil old); so_far = s }

abbrev pub FoundAs : ℕ → List ℕ → Member → List ℕ → Type 0
FoundAs n left m rest = FoundMember n left (member_of m).0 (member_of m).1 rest

pub members_go_on : (n : ℕ) (bytes : List ℕ) (old before mid now : List Member) (left : List ℕ) (m : Member) (rest more : List ℕ) → MembersPending n bytes old before left → mid ≡ before → now ≡ mid ++ m ∷ [] → FoundAs n left m rest → rest ≡ 44 ∷ more → MembersPending n bytes old now more
members_go_on n bytes old before mid now left m rest more s kept push found comma = record {
  these = s.these ++ m ∷ [];
  split = pushed old s.these before mid now m s.split kept push;
  so_far = subst (λ ms. MembersSoFar n bytes ms more) (sym (map-append member_of s.these (m ∷ []))) (members_more n bytes (members_view s.these) left (member_of m).0 (member_of m).1 rest more s.so_far found comma);
}

pub members_taken : (n : ℕ) (bytes : List ℕ) (old before mid now tail : List Member) (begun : ℕ) (left : List ℕ) (m : Member) (rest end : List ℕ) → MembersPending n bytes old before left → mid ≡ before → now ≡ mid ++ m ∷ [] → FoundAs n left m rest → rest ≡ 125 ∷ end → begun ≡ length old → tail ≡ drop begun now → FoundMembers n bytes (members_of (members_view tail)) end
members_taken n bytes old before mid now tail begun left m rest end s kept push found close at cut =
    let all = pushed old s.these before mid now m s.split kept push in
    let own : tail ≡ s.these ++ m ∷ [] = cut ∙ ap (λ k. drop k now) at ∙ ap (drop (length old)) all ∙ drop_old old (s.these ++ m ∷ []) in
    subst (λ ms. FoundMembers n bytes (members_of ms) end) (sym (ap members_view own ∙ map-append member_of s.these (m ∷ []))) (members_end n bytes (members_view s.these) left (member_of m).0 (member_of m).1 rest end s.so_far found close)

pub members_left : (n : ℕ) (bytes : List ℕ) (old before mid now : List Member) (begun : ℕ) (left : List ℕ) (m : Member) → MembersPending n bytes old before left → mid ≡ before → now ≡ mid ++ m ∷ [] → begun ≡ length old → take begun now ≡ old
members_left n bytes old before mid now begun left m s kept push at = ap (λ k. take k now) at ∙ ap (take (length old)) (pushed old s.these before mid now m s.split kept push) ∙ take_old old (s.these ++ m ∷ [])

pub members_within : (n : ℕ) (bytes : List ℕ) (old before mid now : List Member) (begun : ℕ) (left : List ℕ) (m : Member) → MembersPending n bytes old before left → mid ≡ before → now ≡ mid ++ m ∷ [] → begun ≡ length old → begun ≤ length now
members_within n bytes old before mid now begun left m s kept push at =
    let long : length now ≡ length old + length (s.these ++ m ∷ []) = ap length (pushed old s.these before mid now m s.split kept push) ∙ length-append old (s.these ++ m ∷ []) in
    omega arith

pub members_stop : (n : ℕ) (bytes : List ℕ) (old now : List Member) (left : List ℕ) (e : Stop) → MembersPending n bytes old now left → StopsInside e n at_name left → StopsInside e n at_first_name bytes
members_stop n bytes old now left e s h = members_refused n bytes (members_view s.these) left e s.so_far h

pub members_lack : (n : ℕ) (bytes : List ℕ) (old now : List Member) (left : List ℕ) (m : Member) (rest : List ℕ) → MembersPending n bytes old now left → FoundAs n left m rest → ((more : List ℕ) → rest ≢ 44 ∷ more) → ((more : List ℕ) → rest ≢ 125 ∷ more) → (fs : List Frame) → suc (length fs) + n ≡ 64 → stop_of 64 at_first_name fs bytes ≡ Some (Syntax (length rest))
members_lack n bytes old now left m rest s found comma close = members_unended n bytes (members_view s.these) left (member_of m).0 (member_of m).1 rest s.so_far found comma close

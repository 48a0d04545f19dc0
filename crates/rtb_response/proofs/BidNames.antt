-- Where a member's value is kept: at the place of its name, and nowhere else.
use Rattle.std.proofs.Common.{◌≡◌, ◌≢◌, ℕ, suc, zero, ◌<◌, ◌≤◌, List, [], ◌∷◌, length, get_or, Bool, true, false, cond, not, is_some, ◌==◌, Option, Some, None, drop, option_map, bytes_eq, refl, sym, ap, ◌∙◌, arith, inl, inr, ◌⊎◌}
use Rattle.std.proofs.Math.ListN.{set}
use Rattle.std.proofs.lemmas.Bool.{agree_below_at, eqb-true, cases_eq}
use Rattle.std.proofs.lemmas.List.{get_or-set_same, get_or-set_other}
use Rattle.std.proofs.lemmas.Slice.Eq.{bytes_eq-Decides}
use Rattle.adx_json.specs.Tree.{Tree, members_of}
use Rattle.adx_json.specs.Named.{value_of, member_in}
use Rattle.adx_json.specs.View.{members_view}
use Rattle.adx_json.specs.declared.tree.Member.{Member}
use Rattle.adx_json.specs.Walks.{members_by, with_member, found_or}
use Rattle.adx_json.proofs.Meeting.{all_met}
use Rattle.rtb_response.specs.BidNames.{bid_names, place_in}

any_default : {X : Type 0} (xs : List X) (i : ℕ) (d e : X) → i < length xs → get_or xs i d ≡ get_or xs i e
any_default [] i d e low = absurd (omega (arith, low))
any_default (x ∷ xs) zero d e low = refl
any_default (x ∷ xs) (suc i) d e low = any_default xs i d e (omega (arith, low))

none_if : {X : Type 0} (o : Option X) (b : Bool) → is_some o ≡ not b → b ≡ true → o ≡ None
none_if None b h t = refl
none_if (Some x) b h t = let k : true ≡ false = h ∙ ap not t in cc

some_if : {X : Type 0} (o : Option X) (b : Bool) → is_some o ≡ not b → b ≡ false → o ≢ None
some_if None b h f e = let k : false ≡ true = h ∙ ap not f in cc
some_if (Some x) b h f e = cc

-- whether a place is free, as a test told it
pub free : {X : Type 0} (found : List (Option X)) (p : ℕ) (r : Option X) (b : Bool) → p < length found → is_some (get_or found p r) ≡ not b
    → b ≡ true → get_or found p None ≡ None
free found p r b low h t = any_default found p None r low ∙ none_if (get_or found p r) b h t

pub taken : {X : Type 0} (found : List (Option X)) (p : ℕ) (r : Option X) (b : Bool) → p < length found → is_some (get_or found p r) ≡ not b
    → b ≡ false → get_or found p None ≢ None
taken found p r b low h f e = some_if (get_or found p r) b h f (any_default found p r None low ∙ e)

first_is : (b : Bool) (n : ℕ) → cond b 0 (suc n) ≡ 0 → b ≡ true
first_is true n h = refl
first_is false n h = absurd (omega arith)

later_is : (b : Bool) (n k : ℕ) → cond b 0 (suc n) ≡ suc k → n ≡ k
later_is true n k h = absurd (omega arith)
later_is false n k h = omega arith

-- the name at a place that was found
pub name_at : (names : List (List ℕ)) (name : List ℕ) (k : ℕ) → k < length names → place_in names name ≡ k → bytes_eq name (get_or names k []) ≡ true
name_at [] name k low h = absurd (omega arith)
name_at (own ∷ names) name zero low h = first_is (bytes_eq name own) (place_in names name) h
name_at (own ∷ names) name (suc k) low h = name_at names name k (omega arith) (later_is (bytes_eq name own) (place_in names name) k h)

stands_there : ℕ → Bool
stands_there k = place_in bid_names (get_or bid_names k []) == k

-- no two names of the table are the same
own_place : (k : ℕ) → k < 12 → place_in bid_names (get_or bid_names k []) ≡ k
unfolding stands_there
own_place k low = eqb-true _ _ (agree_below_at stands_there (λ _. true) 12 k refl low)

false_unless : (b : Bool) → (b ≡ true → ⊥) → b ≡ false
false_unless true h = absurd (h refl)
false_unless false h = refl

-- another place has another name
pub other_name : (name : List ℕ) (k : ℕ) → k < 12 → place_in bid_names name ≢ k → bytes_eq name (get_or bid_names k []) ≡ false
other_name name k low other =
    false_unless (bytes_eq name (get_or bid_names k []))
    (λ same. other (ap (place_in bid_names) ((bytes_eq-Decides name (get_or bid_names k [])).0 same) ∙ own_place k low))

-- what was found stays, and nothing is met under another name
unmet_by : (name : List ℕ) (o : Option Tree) (m : List ℕ × Tree) → (o ≡ None → bytes_eq m.0 name ≡ false) → o ≡ with_member name o m
unmet_by name None m h = sym (ap (λ b. cond b (Some m.1) None) (h refl))
unmet_by name (Some t) m h = refl

none_of : {X : Type 0} (f : X → Tree) (o : Option X) → option_map f o ≡ None → o ≡ None
none_of f None h = refl
none_of f (Some x) h = cc

-- a member that isn't kept: its name isn't known, or was met before
pub unmet : {X : Type 0} (f : X → Tree) (found : List (Option X)) (name : List ℕ) (t : Tree) (p k : ℕ) → p ≡ place_in bid_names name → k < 12
    → (p < 12 → get_or found p None ≢ None)
    → option_map f (get_or found k None) ≡ with_member (get_or bid_names k []) (option_map f (get_or found k None)) (name, t)
unmet f found name t p k is low taken =
    unmet_by (get_or bid_names k []) (option_map f (get_or found k None)) (name, t)
    (λ none. other_name name k low (λ same. let e = is ∙ same in taken (omega arith) (ap (λ n. get_or found n None) e ∙ none_of f (get_or found k None) none)))

met_here : (name : List ℕ) (o : Option Tree) (m : List ℕ × Tree) → o ≡ None → bytes_eq m.0 name ≡ true → Some m.1 ≡ with_member name o m
met_here name None m none same = sym (ap (λ b. cond b (Some m.1) None) same)
met_here name (Some t) m none same = cc

kept_by : {X : Type 0} (f : X → Tree) (found : List (Option X)) (name : List ℕ) (x : X) (p k : ℕ) → length found ≡ 12 → p ≡ place_in bid_names name
    → k < 12 → p < 12 → get_or found p None ≡ None → (k ≡ p) ⊎ (k ≢ p)
    → option_map f (get_or (set found p (Some x)) k None) ≡ with_member (get_or bid_names k []) (option_map f (get_or found k None)) (name, f x)
kept_by f found name x p k all is low known free (inl here) =
    ap (λ n. option_map f (get_or (set found p (Some x)) n None)) here
    ∙ ap (option_map f) (get_or-set_same found p (Some x) None (omega arith))
    ∙ met_here (get_or bid_names k []) (option_map f (get_or found k None)) (name, f x) (ap (λ n. option_map f (get_or found n None)) here ∙ ap (option_map f) free) (name_at bid_names name k low (sym is ∙ sym here))
kept_by f found name x p k all is low known free (inr other) =
    ap (option_map f) (get_or-set_other found p k (Some x) None other)
    ∙ unmet_by (get_or bid_names k []) (option_map f (get_or found k None)) (name, f x) (λ _. other_name name k low (λ same. other (sym same ∙ sym is)))

-- a member that is kept
pub kept : {X : Type 0} (f : X → Tree) (found : List (Option X)) (name : List ℕ) (x : X) (p k : ℕ) → length found ≡ 12 → p ≡ place_in bid_names name
    → k < 12 → p < 12 → get_or found p None ≡ None
    → option_map f (get_or (set found p (Some x)) k None) ≡ with_member (get_or bid_names k []) (option_map f (get_or found k None)) (name, f x)
kept f found name x p k all is low known free = kept_by f found name x p k all is low known free (cases_eq k p)

-- behind the last member, what is kept at a name's place is the value of the tree's member
pub all_kept : {X : Type 0} (f : X → Tree) (found : List (Option X)) (k : ℕ) (r : Option X) (name : List ℕ) (t : Tree) (items : List Member) (i : ℕ)
    → length found ≡ 12 → k < 12 → length items ≤ i → members_of (members_view items) ≡ members_by t
    → found_or name (option_map f (get_or found k None)) (members_of (members_view (drop i items))) ≡ value_of name (members_of (members_view items)) → option_map f (get_or found k r) ≡ member_in name t
all_kept f found k r name t items i all low end is h =
    ap (option_map f) (any_default found k r None (omega arith)) ∙ all_met name t items i (option_map f (get_or found k None)) end is h

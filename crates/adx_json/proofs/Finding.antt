-- What a walk finds under each of some names.
use Rattle.std.proofs.Common.{◌≡◌, ◌≢◌, ℕ, suc, ◌+◌, ◌<◌, ◌≤◌, List, [], ◌∷◌, length, get_or, drop, Option, Some, None, option_map, Bor, refl, sym, ap, ◌∙◌, arith, inl, inr, ◌⊎◌, drop-cons, length-drop}
use Rattle.std.proofs.lemmas.Bool.{cases_eq}
use Rattle.std.proofs.lemmas.List.{at_drop_all, get_or_default}
use Rattle.adx_json.specs.Tree.{Tree, members_of}
use Rattle.adx_json.specs.View.{tree_of, members_view}
use Rattle.adx_json.specs.declared.tree.Json.{Json}
use Rattle.adx_json.specs.declared.tree.Member.{Member}
use Rattle.adx_json.specs.FoundMembers.{AreFound, member_within}
use Rattle.adx_json.specs.Values.{given_within, not_null}
use Rattle.adx_json.specs.Walks.{with_member, found_or}
use Rattle.adx_json.proofs.Meeting.{met_all}

abbrev pub seen : Option (Bor Json) → Option Tree
seen o = option_map (λ t. tree_of t.now) o

-- what is known of each place and its name, from a place on
pub rows_found : (under : List ℕ → Option Tree) (found : List (Option (Bor Json))) (names : List (Bor (List ℕ))) (at : ℕ) (left : List (Bor (List ℕ))) → drop at names ≡ left
    → ((k : ℕ) (n : Bor (List ℕ)) → k < length names → n ≡ get_or names k n → seen (get_or found k None) ≡ under n.now) → AreFound under at left found
rows_found under found names at [] is h = tt
rows_found under found names at (n ∷ left) is h =
    let low : at < length names = omega (arith, ap length is, length-drop at names) in
    let e : get_or names at n ∷ drop (suc at) names ≡ n ∷ left = sym (drop-cons names at n low) ∙ is in
    let head : n ≡ get_or names at n = cc in
    let tail : drop (suc at) names ≡ left = cc in
    (h at n low head, rows_found under found names (suc at) left tail h)

-- after the last member, what was found is the whole
pub end_met : (name : List ℕ) (items : List Member) (i : ℕ) (found whole : Option Tree) → length items ≤ i → found_or name found (members_of (members_view (drop i items))) ≡ whole → found ≡ whole
end_met name items i found whole end h =
    sym (met_all name found) ∙ sym (at_drop_all (λ left. found_or name found (members_of (members_view left))) items i end) ∙ h

given_is : (name : List ℕ) (o : Option Tree) → not_null (member_within name o) ≡ given_within name o
given_is name None = refl
given_is name (Some t) = refl

-- nulls are left out of what was found
pub nulls_out : (o : Option Tree) (names : List (Bor (List ℕ))) (at : ℕ) (old new : List (Option (Bor Json))) → ((k : ℕ) → seen (get_or new k None) ≡ not_null (seen (get_or old k None)))
    → AreFound (λ name. member_within name o) at names old → AreFound (λ name. given_within name o) at names new
nulls_out o [] at old new h f = tt
nulls_out o (n ∷ ns) at old new h f = (h at ∙ ap not_null f.0 ∙ given_is n.now o, nulls_out o ns (suc at) old new h f.1)

-- one name more
pub put_step : (names : List (Bor (List ℕ))) (old before after : List (Option (Bor Json))) (m : List ℕ × Tree) (place : ℕ) (name : Bor (List ℕ)) → place < length names → name ≡ get_or names place name
    → seen (get_or after place None) ≡ with_member name.now (seen (get_or before place None)) m
    → ((k : ℕ) → k ≢ place → get_or after k None ≡ get_or before k None)
    → ((k : ℕ) (n : Bor (List ℕ)) → k < place → n ≡ get_or names k n → seen (get_or before k None) ≡ with_member n.now (seen (get_or old k None)) m)
    → ((k : ℕ) → place ≤ k → get_or before k None ≡ get_or old k None)
    → (k : ℕ) (n : Bor (List ℕ)) → k < place + 1 → n ≡ get_or names k n → (k ≡ place) ⊎ (k ≢ place) → seen (get_or after k None) ≡ with_member n.now (seen (get_or old k None)) m
put_step names old before after m place name low item here others done left k n near is (inl e) =
    let same : n ≡ name = is ∙ ap (λ p. get_or names p n) e ∙ get_or_default names place n name low ∙ sym item in
    ap (λ p. seen (get_or after p None)) e ∙ here ∙ ap (λ o. with_member name.now (seen o) m) (left place (omega arith))
    ∙ ap (λ p. with_member name.now (seen (get_or old p None)) m) (sym e) ∙ ap (λ (x : Bor (List ℕ)). with_member x.now (seen (get_or old k None)) m) (sym same)
put_step names old before after m place name low item here others done left k n near is (inr other) = ap seen (others k other) ∙ done k n (omega arith) is

-- the same, where the member is found otherwise
pub put_more : (names : List (Bor (List ℕ))) (old before after : List (Option (Bor Json))) (m other : List ℕ × Tree) (place : ℕ) (name : Bor (List ℕ)) → place < length names → name ≡ get_or names place name → other ≡ m
    → seen (get_or after place None) ≡ with_member name.now (seen (get_or before place None)) other
    → ((k : ℕ) → k ≢ place → get_or after k None ≡ get_or before k None)
    → ((k : ℕ) (n : Bor (List ℕ)) → k < place → n ≡ get_or names k n → seen (get_or before k None) ≡ with_member n.now (seen (get_or old k None)) m)
    → ((k : ℕ) → place ≤ k → get_or before k None ≡ get_or old k None)
    → (k : ℕ) (n : Bor (List ℕ)) → k < place + 1 → n ≡ get_or names k n → seen (get_or after k None) ≡ with_member n.now (seen (get_or old k None)) m
put_more names old before after m other place name low item e here others done left k n near is =
    put_step names old before after m place name low item (here ∙ ap (with_member name.now (seen (get_or before place None))) e) others done left k n near is (cases_eq k place)

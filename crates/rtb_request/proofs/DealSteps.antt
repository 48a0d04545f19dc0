-- Deal by deal.
use Rattle.std.proofs.Common.{◌≡◌, ℕ, List, [], ◌∷◌, ◌++◌, map, Bool, true, false, ◌&&◌, ◌||◌, not, cond, bytes_eq, Option, Some, None, refl, sym, ap, ◌∙◌, subst, append-nil}
use Rattle.std.specs.List.{AllZip}
use Rattle.std.proofs.lemmas.List.{map-append}
use Rattle.std.proofs.lemmas.List.Folds.{list_any-append}
use Rattle.std.proofs.Math.Seq.{append_snoc}
use Rattle.adx_json.specs.Tree.{Tree}
use Rattle.adx_units.specs.Among.{is_among}
use Rattle.adx_json.specs.Rows.{first_fault, first_among, or_else}
use Rattle.adx_json.proofs.Listing.{Say, same_rows}
use Rattle.rtb_request.specs.Distinct.{all_distinct}
use Rattle.rtb_request.specs.Deals.{deal_rows, deal_id, is_in_dollars, that_count}
use Rattle.rtb_request.specs.Met.{AreIds, counts, GivesDeal, HasIdOf, IsPut}
use Rattle.rtb_request.specs.declared.deal.Deal.{Deal}
use Rattle.rtb_request.specs.declared.fault.RequestFault.{RequestFault}
use Rattle.rtb_request.proofs.Distinct.{distinct_more}

abbrev pub ids : List Deal → List (List ℕ)
ids xs = map (λ (d : Deal). d.id) xs

-- the deals so far, and those of the trees that are left, are those of all trees
pub record Kept (all : List Tree) (set : List (List ℕ)) (ds : List Deal) (left : List Tree) : Type 0 where
  pub fault : first_among (λ us. deal_rows) [] left ≡ first_among (λ us. deal_rows) [] all
  pub says : (ws : List Deal) → AllZip (Say deal_rows) (that_count (ids ds) left) ws → AllZip (Say deal_rows) (that_count [] all) (ds ++ ws)
  pub ids : AreIds set (map (λ (d : Deal). d.id) ds)
  pub distinct : all_distinct (map (λ (d : Deal). d.id) ds) ≡ true

fault_on : (left ts : List Tree) (t : Tree) → left ≡ t ∷ ts → first_fault deal_rows (Some t) ≡ None
    → first_among (λ us. deal_rows) [] ts ≡ first_among (λ us. deal_rows) [] left
fault_on left ts t is none = same_rows deal_rows [] (t ∷ []) ts ∙ sym (ap (first_among (λ us. deal_rows) []) is ∙ ap (λ o. or_else o (first_among (λ us. deal_rows) (t ∷ []) ts)) none)

-- whether it counts, by the set and by the deals
counts_by : (set : List (List ℕ)) (ds : List Deal) (t : Tree) → AreIds set (ids ds) → counts set t ≡ counts (ids ds) t
counts_by set ds t are = ap (λ b. is_in_dollars t && not b) (are (deal_id t))

-- a deal that doesn't count
pub kept_over : (all : List Tree) (set new : List (List ℕ)) (ds : List Deal) (left ts : List Tree) (t : Tree) → left ≡ t ∷ ts
    → first_fault deal_rows (Some t) ≡ None → GivesDeal set t None → HasIdOf set None new → Kept all set ds left → Kept all new ds ts
kept_over all set new ds left ts t is none gives same k =
    let no : counts (ids ds) t ≡ false = sym (counts_by set ds t k.ids) ∙ gives in
    record {
      fault = fault_on left ts t is none ∙ k.fault;
      says = λ ws h. k.says ws (subst (λ us. AllZip (Say deal_rows) us ws) (sym (ap (that_count (ids ds)) is ∙ ap (λ b. cond b (t ∷ that_count (ids ds ++ deal_id t ∷ []) ts) (that_count (ids ds) ts)) no)) h);
      ids = λ id. ap (λ l. is_among l id) same ∙ k.ids id;
      distinct = k.distinct;
    }

or_last : (a b : Bool) → (b || a) ≡ (a || (b || false))
or_last true true = refl
or_last true false = refl
or_last false true = refl
or_last false false = refl

new_by : (a b : Bool) → (a && not b) ≡ true → b ≡ false
new_by true true h = absurd (cc h)
new_by true false h = refl
new_by false b h = absurd (cc h)

-- a deal that counts
pub kept_more : (all : List Tree) (set new : List (List ℕ)) (ds : List Deal) (left ts : List Tree) (t : Tree) (d : Deal) → left ≡ t ∷ ts
    → first_fault deal_rows (Some t) ≡ None → GivesDeal set t (Some d) → HasIdOf set (Some d) new → Kept all set ds left
    → Kept all new (ds ++ d ∷ []) ts
kept_more all set new ds left ts t d is none gives put k =
    let yes : counts (ids ds) t ≡ true = sym (counts_by set ds t k.ids) ∙ gives.0 in
    let named : d.id ≡ deal_id t = gives.1.0 in
    let all_ids : ids (ds ++ d ∷ []) ≡ ids ds ++ d.id ∷ [] = map-append (λ (x : Deal). x.id) ds (d ∷ []) in
    let unmet : is_among (ids ds) d.id ≡ false = ap (is_among (ids ds)) named ∙ new_by (is_in_dollars t) (is_among (ids ds) (deal_id t)) yes in
    record {
      fault = fault_on left ts t is none ∙ k.fault;
      says = λ ws h. subst (AllZip (Say deal_rows) (that_count [] all)) (sym (append_snoc ds d ws))
          (k.says (d ∷ ws) (subst (λ us. AllZip (Say deal_rows) us (d ∷ ws))
          (sym (ap (that_count (ids ds)) is ∙ ap (λ b. cond b (t ∷ that_count (ids ds ++ deal_id t ∷ []) ts) (that_count (ids ds) ts)) yes))
          (gives.1, subst (λ ns. AllZip (Say deal_rows) (that_count ns ts) ws) (all_ids ∙ ap (λ n. ids ds ++ n ∷ []) named) h)));
      ids = λ id. put id ∙ ap (λ b. bytes_eq d.id id || b) (k.ids id) ∙ or_last (is_among (ids ds) id) (bytes_eq d.id id)
          ∙ sym (ap (λ l. is_among l id) all_ids ∙ list_any-append (λ n. bytes_eq n id) (ids ds) (d.id ∷ []));
      distinct = ap all_distinct all_ids ∙ distinct_more (ids ds) d.id k.distinct unmet;
    }

-- a deal with a fault
pub kept_off : (all : List Tree) (set : List (List ℕ)) (ds : List Deal) (left ts : List Tree) (t : Tree) (f : RequestFault) → left ≡ t ∷ ts
    → first_fault deal_rows (Some t) ≡ Some f → Kept all set ds left → first_among (λ us. deal_rows) [] all ≡ Some f
kept_off all set ds left ts t f is some k = sym k.fault ∙ ap (first_among (λ us. deal_rows) []) is ∙ ap (λ o. or_else o (first_among (λ us. deal_rows) (t ∷ []) ts)) some

-- the last was read
pub kept_last : (all : List Tree) (set : List (List ℕ)) (ds : List Deal) (left : List Tree) → left ≡ [] → Kept all set ds left
    → (first_among (λ us. deal_rows) [] all ≡ None) × AllZip (Say deal_rows) (that_count [] all) ds
kept_last all set ds left is k =
    (sym k.fault ∙ ap (first_among (λ us. deal_rows) []) is, subst (AllZip (Say deal_rows) (that_count [] all)) (append-nil ds) (k.says [] (subst (λ us. AllZip (Say deal_rows) (that_count (ids ds) us) []) (sym is) tt)))

-- a deal without a fault, which counts or doesn't
pub kept_on : (all : List Tree) (set new : List (List ℕ)) (ds es : List Deal) (left ts : List Tree) (t : Tree) (found : Option Deal) → left ≡ t ∷ ts
    → first_fault deal_rows (Some t) ≡ None → GivesDeal set t found → HasIdOf set found new → IsPut ds found es → Kept all set ds left
    → Kept all new es ts
kept_on all set new ds es left ts t None is none gives ids put k = subst (λ xs. Kept all new xs ts) (sym put) (kept_over all set new ds left ts t is none gives ids k)
kept_on all set new ds es left ts t (Some d) is none gives ids put k = subst (λ xs. Kept all new xs ts) (sym put) (kept_more all set new ds left ts t d is none gives ids k)

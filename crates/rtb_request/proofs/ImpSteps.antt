-- Impression by impression.
use Rattle.std.proofs.Common.{◌≡◌, ℕ, List, [], ◌∷◌, ◌++◌, map, Bool, true, false, ◌||◌, bytes_eq, refl, sym, ap, ap₂, ◌∙◌}
use Rattle.std.specs.List.{list_any, AllZip}
use Rattle.std.proofs.lemmas.List.{map-append}
use Rattle.adx_json.specs.Tree.{Tree}
use Rattle.adx_units.specs.Among.{is_among}
use Rattle.adx_json.proofs.Listing.{Say}
use Rattle.rtb_request.specs.Distinct.{all_distinct}
use Rattle.rtb_request.specs.Imps.{imp_rows, imp_id}
use Rattle.rtb_request.specs.Ids.{imp_has_id}
use Rattle.rtb_request.specs.declared.imp.Imp.{Imp}
use Rattle.rtb_request.proofs.Distinct.{distinct_more}

abbrev pub ids : List Imp → List (List ℕ)
ids xs = map (λ (i : Imp). i.id) xs

pub among_imps : (xs : List Imp) (id : List ℕ) → is_among (ids xs) id ≡ list_any (imp_has_id id) xs
among_imps [] id = refl
among_imps (x ∷ xs) id = ap (λ b. bytes_eq x.id id || b) (among_imps xs id)

pub pushed_distinct : (xs : List Imp) (x : Imp) → all_distinct (ids xs) ≡ true → is_among (ids xs) x.id ≡ false → all_distinct (ids (xs ++ x ∷ [])) ≡ true
pushed_distinct xs x h k = ap all_distinct (map-append (λ (i : Imp). i.id) xs (x ∷ [])) ∙ distinct_more _ x.id h k

-- the ids of the trees are those of the impressions
pub ids_are : (dollars : Bool) (ts : List Tree) (xs : List Imp) → AllZip (Say (imp_rows dollars [])) ts xs → map imp_id ts ≡ ids xs
ids_are dollars [] [] h = refl
ids_are dollars [] (x ∷ xs) h = absurd h
ids_are dollars (t ∷ ts) [] h = absurd h
ids_are dollars (t ∷ ts) (x ∷ xs) h = ap₂ (λ n ns. n ∷ ns) (sym h.0.0) (ids_are dollars ts xs h.1)

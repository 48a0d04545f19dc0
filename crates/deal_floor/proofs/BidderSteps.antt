-- Bidder by bidder.
use Rattle.std.proofs.Common.{◌≡◌, ℕ, List, [], ◌∷◌, ◌++◌, map, length, true, false, ◌||◌, bytes_eq, Some, refl, sym, ap, ap₂, ◌∙◌}
use Rattle.std.specs.List.{AllZip, list_any}
use Rattle.std.proofs.lemmas.List.{map-append, length-map}
use Rattle.adx_json.specs.Tree.{Tree}
use Rattle.adx_json.proofs.Listing.{Say}
use Rattle.adx_units.specs.Among.{is_among}
use Rattle.rtb_request.specs.Distinct.{all_distinct}
use Rattle.rtb_request.proofs.Distinct.{distinct_more}
use Rattle.deal_floor.specs.Reading.{place_has_name}
use Rattle.deal_floor.specs.Rosters.{bidder_rows, name_in}
use Rattle.deal_floor.specs.declared.place.Place.{Place}

abbrev pub names : List Place → List (List ℕ)
names xs = map (λ (p : Place). p.name) xs

abbrev pub names_in : List Tree → List (List ℕ)
names_in ts = map (λ (t : Tree). name_in (Some t)) ts

pub names_length : (xs : List Place) → length (map (λ (p : Place). p.name) xs) ≡ length xs
names_length xs = length-map xs (λ (p : Place). p.name)

pub among_bidders : (xs : List Place) (name : List ℕ) → is_among (map (λ (p : Place). p.name) xs) name ≡ list_any (place_has_name name) xs
among_bidders [] name = refl
among_bidders (x ∷ xs) name = ap (λ b. bytes_eq x.name name || b) (among_bidders xs name)

pub pushed_distinct : (xs : List Place) (x : Place) → all_distinct (names xs) ≡ true → is_among (names xs) x.name ≡ false
    → all_distinct (names (xs ++ x ∷ [])) ≡ true
pushed_distinct xs x h k = ap all_distinct (map-append (λ (p : Place). p.name) xs (x ∷ [])) ∙ distinct_more _ x.name h k

-- the names of the trees are those of the bidders
pub names_are : (ts : List Tree) (xs : List Place) → AllZip (Say (bidder_rows [])) ts xs → names_in ts ≡ names xs
names_are [] [] h = refl
names_are [] (x ∷ xs) h = absurd h
names_are (t ∷ ts) [] h = absurd h
names_are (t ∷ ts) (x ∷ xs) h = ap₂ (λ n ns. n ∷ ns) (sym h.0.0) (names_are ts xs h.1)

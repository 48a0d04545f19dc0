-- Price by price.
use Rattle.std.proofs.Common.{◌≡◌, ℕ, List, [], ◌∷◌, ◌++◌, map, length, true, false, ◌||◌, bytes_eq, Some, refl, sym, ap, ap₂, ◌∙◌}
use Rattle.std.specs.List.{AllZip, list_any}
use Rattle.std.proofs.lemmas.List.{map-append, length-map}
use Rattle.adx_json.specs.Tree.{Tree}
use Rattle.adx_json.proofs.Listing.{Say}
use Rattle.adx_units.specs.Among.{is_among}
use Rattle.rtb_request.specs.Distinct.{all_distinct}
use Rattle.rtb_request.proofs.Distinct.{distinct_more}
use Rattle.bidder_core.specs.PriceLines.{cid_in, price_rows}
use Rattle.bidder_core.specs.Seen.{price_has_cid}
use Rattle.bidder_core.specs.declared.price_line.Price.{Price}

abbrev pub cids : List Price → List (List ℕ)
cids xs = map (λ (p : Price). p.cid) xs

pub cids_length : (xs : List Price) → length (map (λ (p : Price). p.cid) xs) ≡ length xs
cids_length xs = length-map xs (λ (p : Price). p.cid)

pub among_prices : (xs : List Price) (cid : List ℕ) → is_among (map (λ (p : Price). p.cid) xs) cid ≡ list_any (price_has_cid cid) xs
among_prices [] cid = refl
among_prices (x ∷ xs) cid = ap (λ b. bytes_eq x.cid cid || b) (among_prices xs cid)

pub pushed_distinct : (xs : List Price) (x : Price) → all_distinct (cids xs) ≡ true → is_among (cids xs) x.cid ≡ false
    → all_distinct (cids (xs ++ x ∷ [])) ≡ true
pushed_distinct xs x h k = ap all_distinct (map-append (λ (p : Price). p.cid) xs (x ∷ [])) ∙ distinct_more _ x.cid h k

abbrev pub cids_in : List Tree → List (List ℕ)
cids_in ts = map (λ (t : Tree). cid_in (Some t)) ts

-- the campaigns of the trees are those of the prices
pub cids_are : (ts : List Tree) (xs : List Price) → AllZip (Say (price_rows [])) ts xs → cids_in ts ≡ cids xs
cids_are [] [] h = refl
cids_are [] (x ∷ xs) h = absurd h
cids_are (t ∷ ts) [] h = absurd h
cids_are (t ∷ ts) (x ∷ xs) h = ap₂ (λ n ns. n ∷ ns) (sym h.0.0) (cids_are ts xs h.1)

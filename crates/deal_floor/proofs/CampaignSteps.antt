-- Campaign by campaign.
use Rattle.std.proofs.Common.{◌≡◌, ℕ, List, [], ◌∷◌, ◌++◌, map, length, Bool, true, false, ◌&&◌, ◌||◌, not, cond, ◌+◌, nat_lt, bytes_eq, Some, None, refl, sym, ap, ap₂, ◌∙◌}
use Rattle.std.specs.List.{AllZip, list_any, position, prefix_len}
use Rattle.std.proofs.lemmas.List.{map-append, length-map}
use Rattle.std.proofs.lemmas.List.Folds.{list_all-append}
use Rattle.adx_json.specs.Tree.{Tree}
use Rattle.adx_json.proofs.Listing.{Say}
use Rattle.deal_floor.specs.Pairs.{Pair, is_pair_among, all_pairs_distinct, pair_of, has_pair, have_bidders}
use Rattle.deal_floor.specs.Reading.{place_has_name}
use Rattle.deal_floor.specs.Rosters.{campaign_rows, pair_in}
use Rattle.deal_floor.specs.declared.campaign.Campaign.{Campaign}
use Rattle.deal_floor.specs.declared.place.Place.{Place}
use Rattle.deal_floor.proofs.PairsMore.{pairs_more}
use Rattle.deal_floor.proofs.BidderSteps.{names}

pub pairs_length : (xs : List Campaign) → length (map pair_of xs) ≡ length xs
pairs_length xs = length-map xs pair_of

pub among_campaigns : (xs : List Campaign) (seat cid : List ℕ) → is_pair_among (map pair_of xs) (seat, cid) ≡ list_any (has_pair seat cid) xs
among_campaigns [] seat cid = refl
among_campaigns (x ∷ xs) seat cid = ap (λ b. has_pair seat cid x || b) (among_campaigns xs seat cid)

pub pushed_distinct : (xs : List Campaign) (x : Campaign) → all_pairs_distinct (map pair_of xs) ≡ true → list_any (has_pair x.seat x.cid) xs ≡ false
    → all_pairs_distinct (map pair_of (xs ++ x ∷ [])) ≡ true
pushed_distinct xs x h k = ap all_pairs_distinct (map-append pair_of xs (x ∷ [])) ∙ pairs_more _ (pair_of x) h (among_campaigns xs x.seat x.cid ∙ k)

pub pushed_known : (n : ℕ) (xs : List Campaign) (x : Campaign) → have_bidders n xs ≡ true → nat_lt x.bidder n ≡ true → have_bidders n (xs ++ x ∷ []) ≡ true
pushed_known n xs x h k = list_all-append (λ (c : Campaign). nat_lt c.bidder n) xs (x ∷ []) ∙ ap₂ (λ a b. a && (b && true)) h k

abbrev pub pairs_in : List Tree → List Pair
pairs_in ts = map (λ (t : Tree). pair_in (Some t)) ts

-- the pairs of the trees are those of the campaigns
pub pairs_are : (ns : List (List ℕ)) (ts : List Tree) (xs : List Campaign) → AllZip (Say (campaign_rows ns [])) ts xs → pairs_in ts ≡ map pair_of xs
pairs_are ns [] [] h = refl
pairs_are ns [] (x ∷ xs) h = absurd h
pairs_are ns (t ∷ ts) [] h = absurd h
pairs_are ns (t ∷ ts) (x ∷ xs) h =
    let pair : pair_in (Some t) ≡ pair_of x = ap₂ (λ s c. (s, c)) (sym h.0.1.0) (sym h.0.1.1.0) in
    ap₂ (λ p ps. p ∷ ps) pair (pairs_are ns ts xs h.1)

prefix_map : {A B : Type 0} (p : B → Bool) (f : A → B) (xs : List A) → prefix_len p (map f xs) ≡ prefix_len (λ x. p (f x)) xs
prefix_map p f [] = refl
prefix_map p f (x ∷ xs) = ap (λ (n : ℕ). cond (p (f x)) (1 + n) 0) (prefix_map p f xs)

-- the place of a name
pub place_is : (xs : List Place) (name : List ℕ) → position (λ n. bytes_eq n name) (names xs) ≡ position (place_has_name name) xs
place_is xs name =
    let passes = λ (n : List ℕ). not (bytes_eq n name) in
    ap₂ (λ (k n : ℕ). cond (nat_lt k n) (Some k) None) (prefix_map passes (λ (p : Place). p.name) xs) (length-map xs (λ (p : Place). p.name))

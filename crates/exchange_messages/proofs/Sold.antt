-- Awards of an ask, written one after another.
use Rattle.std.proofs.Common.{◌≡◌, ◌≤◌, ◌<◌, ℕ, zero, suc, ◌+◌, List, [], ◌∷◌, ◌++◌, take, drop, get_or, length, length-take, length-append, append_assoc, filter, Bool, true, cond, ◌==◌, Option, Some, None, refl, sym, ap, ◌∙◌, subst, inl, inr, codes, arith}
use Rattle.std.specs.List.{AllZip, enumerate_from, flat_map, range_with_len}
use Rattle.std.proofs.lemmas.Bool.{and_from, cases_lt, eq-eqb}
use Rattle.std.proofs.lemmas.List.{take-append-drop, take_more}
use Rattle.std.proofs.lemmas.List.Elements.{filter-append}
use Rattle.std.proofs.lemmas.List.FromFn.{length-enumerate_from}
use Rattle.std.proofs.lemmas.Slice.Zip.{AllZip-long}
use Rattle.adx_json.specs.Named.{member_in, with_member}
use Rattle.adx_json.specs.Tree.{Tree, text}
use Rattle.adx_json.specs.View.{tree_of}
use Rattle.adx_json.specs.declared.tree.Json.{Json}
use Rattle.adx_units.specs.declared.offer.Offer.{Offer}
use Rattle.allocator_core.specs.declared.reason.TheConstants.{AWARDED}
use Rattle.allocator_core.specs.Choice.{no_offer}
use Rattle.answer_lines.proofs.Joined.{over_more}
use Rattle.day_rules.proofs.Lists.{enumerate-append}
use Rattle.day_rules.specs.declared.ask.Ask.{Ask}
use Rattle.day_rules.specs.declared.ask.Kept.{Kept}
use Rattle.deal_floor.specs.declared.campaign.Campaign.{Campaign}
use Rattle.notice_macros.specs.declared.values.Values.{Values}
use Rattle.rtb_response.specs.declared.sold.Sold.{Sold}
use Rattle.adx_json.specs.Values.{text_in}
use Rattle.exchange_messages.proofs.Shown.{ShowSame, same_markup}
use Rattle.exchange_messages.specs.Sales.{HasTree, IsSold, expanded, is_award_for, markup_values, sold_bids, with_markup}
use Rattle.exchange_messages.specs.Selling.{AreSold}

-- two lists side by side, and one more of each
pub zip_more : {A B : Type 0} (R : A → B → Type 0) (xs : List A) (ys : List B) (x : A) (y : B) → AllZip R xs ys → R x y → AllZip R (xs ++ x ∷ []) (ys ++ y ∷ [])
zip_more R [] [] x y h one = (one, tt)
zip_more R (w ∷ xs) (z ∷ ys) x y h one = (h.0, zip_more R xs ys x y h.1 one)
zip_more R xs ys x y h one = absurd h

-- an award more
pub sold_more : (cs : List Campaign) (a : Ask) (bids : List (ℕ × Offer)) (p : ℕ × Offer) (sold more : List Sold) (s : Sold) (award : ℕ)
    → award ≡ a.first + length sold → more ≡ sold ++ s ∷ [] → IsSold cs a (award, p) s → AreSold cs a bids sold → AreSold cs a (bids ++ p ∷ []) more
sold_more cs a bids p sold more s award number put one h =
    let long : length sold ≡ length bids = AllZip-long (IsSold cs a) (enumerate_from a.first bids) sold h ∙ length-enumerate_from a.first bids in
    let placed : award ≡ a.first + length bids = number ∙ ap (λ n. a.first + n) long in
    subst (λ xs. AllZip (IsSold cs a) xs more) (sym (enumerate-append a.first bids (p ∷ [])))
    (subst (λ ys. AllZip (IsSold cs a) (enumerate_from a.first bids ++ (a.first + length bids, p) ∷ []) ys) (sym put)
    (zip_more (IsSold cs a) (enumerate_from a.first bids) sold (a.first + length bids, p) s h (subst (λ n. IsSold cs a (n, p) s) placed one)))

-- the same, where it was awarded for the impression
pub sold_if : (cs : List Campaign) (a : Ask) (imp : ℕ) (bids : List (ℕ × Offer)) (place : ℕ) (o : Offer) (sold more : List Sold) (s : Sold) (award : ℕ)
    → o.reason ≡ AWARDED → o.imp ≡ imp → award ≡ a.first + length sold → more ≡ sold ++ s ∷ [] → IsSold cs a (award, (place, o)) s
    → AreSold cs a bids sold → AreSold cs a (bids ++ filter (is_award_for imp) ((place, o) ∷ [])) more
sold_if cs a imp bids place o sold more s award won here number put one h =
    let test : is_award_for imp (place, o) ≡ true = and_from (o.reason == AWARDED) (o.imp == imp) (eq-eqb o.reason AWARDED won) (eq-eqb o.imp imp here) in
    subst (λ (b : Bool). AreSold cs a (bids ++ cond b ((place, o) ∷ []) []) more) (sym test) (sold_more cs a bids (place, o) sold more s award number put one h)

-- the awards for an impression among a front of the bids, and the next bid
pub front_more : (imp : ℕ) (offers : List Offer) (i : ℕ) (d : Offer) → i < length offers
    → filter (is_award_for imp) (enumerate_from 0 (take (i + 1) offers)) ≡ filter (is_award_for imp) (enumerate_from 0 (take i offers)) ++ filter (is_award_for imp) ((i, get_or offers i d) ∷ [])
front_more imp offers i d low =
    let front = take i offers in
    let x = get_or offers i d in
    let long : 0 + length front ≡ i = ap (λ n. 0 + n) (length-take i offers) ∙ omega arith in
    ap (λ os. filter (is_award_for imp) (enumerate_from 0 os)) (take_more offers i d low)
    ∙ ap (filter (is_award_for imp)) (enumerate-append 0 front (x ∷ []) ∙ ap (λ n. enumerate_from 0 front ++ (n, x) ∷ []) long)
    ∙ filter-append (is_award_for imp) (enumerate_from 0 front) ((i, x) ∷ [])

-- a front has no more of them than all
pub front_few : (imp : ℕ) (offers : List Offer) (i : ℕ) → length (filter (is_award_for imp) (enumerate_from 0 (take i offers))) ≤ length (filter (is_award_for imp) (enumerate_from 0 offers))
front_few imp offers i =
    let p = is_award_for imp in
    let front = take i offers in
    let back = drop i offers in
    let split : filter p (enumerate_from 0 offers) ≡ filter p (enumerate_from 0 front) ++ filter p (enumerate_from (0 + length front) back) =
    ap (λ os. filter p (enumerate_from 0 os)) (sym (take-append-drop i offers)) ∙ ap (filter p) (enumerate-append 0 front back) ∙ filter-append p (enumerate_from 0 front) (enumerate_from (0 + length front) back) in
    let long = ap length split ∙ length-append (filter p (enumerate_from 0 front)) (filter p (enumerate_from (0 + length front) back)) in
    omega arith

-- so the next bid has room where all have
pub front_room : (imp : ℕ) (offers items : List Offer) (i first before now most : ℕ) → items ≡ offers → i < length items
    → now ≡ before + length (filter (is_award_for imp) (enumerate_from 0 (take i offers))) → first + before + length (filter (is_award_for imp) (enumerate_from 0 offers)) ≤ most
    → first + now + length (filter (is_award_for imp) ((i, get_or items i no_offer) ∷ [])) ≤ most
front_room imp offers items i first before now most same low counted room =
    let here = filter (is_award_for imp) ((i, get_or offers i no_offer) ∷ []) in
    let long = ap length (front_more imp offers i no_offer (subst (λ os. i < length os) same low)) ∙ length-append (filter (is_award_for imp) (enumerate_from 0 (take i offers))) here in
    let few = front_few imp offers (i + 1) in
    subst (λ os. first + now + length (filter (is_award_for imp) ((i, get_or os i no_offer) ∷ [])) ≤ most) (sym same) (omega (arith, counted, room, long, few))

pub front_counted : (imp : ℕ) (offers items : List Offer) (i before now next : ℕ) → items ≡ offers → i < length items
    → now ≡ before + length (filter (is_award_for imp) (enumerate_from 0 (take i offers))) → next ≡ now + length (filter (is_award_for imp) ((i, get_or items i no_offer) ∷ []))
    → next ≡ before + length (filter (is_award_for imp) (enumerate_from 0 (take (i + 1) offers)))
front_counted imp offers items i before now next same low counted more =
    let here = filter (is_award_for imp) ((i, get_or offers i no_offer) ∷ []) in
    let long = ap length (front_more imp offers i no_offer (subst (λ os. i < length os) same low)) ∙ length-append (filter (is_award_for imp) (enumerate_from 0 (take i offers))) here in
    let own : next ≡ now + length here = more ∙ ap (λ os. now + length (filter (is_award_for imp) ((i, get_or os i no_offer) ∷ []))) same in
    omega (arith, counted, own, long)

pub front_sold : (cs : List Campaign) (a : Ask) (imp : ℕ) (items : List Offer) (i : ℕ) (done : List (ℕ × Offer)) (sold : List Sold) → items ≡ a.offers → i < length items
    → AreSold cs a ((done ++ filter (is_award_for imp) (enumerate_from 0 (take i a.offers))) ++ filter (is_award_for imp) ((i, get_or items i no_offer) ∷ [])) sold
    → AreSold cs a (done ++ filter (is_award_for imp) (enumerate_from 0 (take (i + 1) a.offers))) sold
front_sold cs a imp items i done sold same low h =
    let front = filter (is_award_for imp) (enumerate_from 0 (take i a.offers)) in
    subst (λ bids. AreSold cs a bids sold)
    (append_assoc done front (filter (is_award_for imp) ((i, get_or items i no_offer) ∷ []))
    ∙ ap (λ os. done ++ (front ++ filter (is_award_for imp) ((i, get_or os i no_offer) ∷ []))) same
    ∙ ap (λ bids. done ++ bids) (sym (front_more imp a.offers i no_offer (subst (λ os. i < length os) same low))))
    h

next : (n : ℕ) → suc n ≡ n + 1
next n = omega arith

-- what holds a number below another has room in what holds all below that
pub range_few : {X : Type 0} (f : ℕ → List X) (i n : ℕ) → i < n → length (flat_map f (range_with_len 0 i)) + length (f i) ≤ length (flat_map f (range_with_len 0 n))
range_few f i zero low = absurd (omega (arith, low))
range_few f i (suc n) low =
    let long : length (flat_map f (range_with_len 0 (suc n))) ≡ length (flat_map f (range_with_len 0 n)) + length (f n) =
    ap (λ k. length (flat_map f (range_with_len 0 k))) (next n) ∙ ap length (over_more f n) ∙ length-append (flat_map f (range_with_len 0 n)) (f n) in
    elim (cases_lt i n) [
      | inl before ↦ (let h = range_few f i n before in omega (arith, h, long))
      | inr last ↦ (
          let same : n ≡ i = omega (arith, low, last) in
          subst (λ k. length (flat_map f (range_with_len 0 k)) + length (f k) ≤ length (flat_map f (range_with_len 0 (suc n)))) same (omega (arith, long)))
    ]

pub all_room : (a : Ask) (i now most : ℕ) → i < length a.imps → now ≡ length (flat_map (λ imp. filter (is_award_for imp) (enumerate_from 0 a.offers)) (range_with_len 0 i))
    → a.first + length (sold_bids a) ≤ most → a.first + now + length (filter (is_award_for i) (enumerate_from 0 a.offers)) ≤ most
all_room a i now most low counted room =
    let few = range_few (λ (imp : ℕ). filter (is_award_for imp) (enumerate_from 0 a.offers)) i (length a.imps) low in
    omega (arith, counted, room, few)

pub range_counted : {X : Type 0} (f : ℕ → List X) (n now next : ℕ) → now ≡ length (flat_map f (range_with_len 0 n)) → next ≡ now + length (f n) → next ≡ length (flat_map f (range_with_len 0 (n + 1)))
range_counted f n now next counted more = let long = ap length (over_more f n) ∙ length-append (flat_map f (range_with_len 0 n)) (f n) in omega (arith, counted, more, long)

-- the markup of a body is by what its values show
same_with : (v w : Values) (t : Tree) (m : Option (List ℕ)) → ShowSame v w → with_markup v t m ≡ with_markup w t m
same_with v w t None s = refl
same_with v w t (Some m) s = ap (λ u. with_member (codes "adm") (text u) t) (same_markup v w s m)

pub same_body : (v w : Values) (t : Tree) → ShowSame v w → expanded v t ≡ expanded w t
same_body v w t s = same_with v w t (text_in (member_in (codes "adm") t)) s

-- the body of a bid by its kept texts
pub body_is : (a : Ask) (o : Offer) (k : Kept) (v : Values) (body : List ℕ) (j : Json) → body ≡ k.body → ShowSame v (markup_values a o k)
    → ((t : Tree) × HasTree body t × (tree_of j ≡ expanded v t)) → (t : Tree) × HasTree k.body t × (tree_of j ≡ expanded (markup_values a o k) t)
body_is a o k v body j same shown h = (h.0, subst (λ b. HasTree b h.0) same h.1, h.2 ∙ same_body v (markup_values a o k) h.0 shown)

-- What the sales of an ask add, impression after impression and offer after offer.
use Rattle.std.proofs.Common.{◌≡◌, ℕ, zero, suc, ◌+◌, ◌-◌, ◌<◌, ◌≤◌, List, [], ◌∷◌, ◌++◌, map, length, take, drop, get_or, Bool, true, false, cond, ◌&&◌, eqb, refl, sym, ap, ◌∙◌, arith, None, length-append, append_assoc}
use Rattle.std.specs.List.{filter, flat_map, range_with_len, sum_by}
use Rattle.std.proofs.lemmas.List.{append-nil, map-append, take-append-drop}
use Rattle.std.proofs.lemmas.List.Elements.{filter-append, filter_more}
use Rattle.std.proofs.lemmas.List.Sums.{sum_by-append, sum_by-cons}
use Rattle.std.proofs.lemmas.Simd.{map-map}
use Rattle.std.proofs.lemmas.Grind.{flat_map-append}
use Rattle.adx_units.specs.declared.offer.Offer.{Offer}
use Rattle.allocator_core.specs.declared.reason.TheConstants.{AWARDED}
use Rattle.notice_book.specs.declared.award.Award.{Award}
use Rattle.day_rules.specs.declared.ask.Ask.{Ask}
use Rattle.day_rules.specs.Books.{award_of, awarded_offers, sale_of}
use Rattle.day_rules.proofs.Money.{own_here}
use Rattle.day_rules.proofs.Within.{held, held_open, held_sum}
use Rattle.day_machine.specs.LedgerState.{committed_in}
use Rattle.day_machine.specs.Selling.{ask_awards, awards_below, imp_awards, sold_at}

range_split : (a m n : ℕ) → range_with_len a (m + n) ≡ range_with_len a m ++ range_with_len (a + m) n
range_split a zero n = ap (range_with_len a) (omega arith) ∙ ap (λ (j : ℕ). range_with_len j n) (omega arith)
range_split a (suc m) n =
    let one : suc m + n ≡ suc (m + n) = omega arith in
    let two : a + 1 + m ≡ a + suc m = omega arith in
    ap (range_with_len a) one ∙ ap (λ (t : List ℕ). a ∷ t) (range_split (a + 1) m n ∙ ap (λ (j : ℕ). range_with_len (a + 1) m ++ range_with_len j n) two)

-- the impressions below one more
pub below_more : {X : Type 0} (f : ℕ → List X) (i : ℕ) → flat_map f (range_with_len 0 (i + 1)) ≡ flat_map f (range_with_len 0 i) ++ f i
below_more {X} f i =
    let start : 0 + i ≡ i = omega arith in
    ap (flat_map f) (range_split 0 i 1)
    ∙ (flat_map-append f (range_with_len 0 i) (range_with_len (0 + i) 1)
    ∙ (ap (λ (j : ℕ). flat_map f (range_with_len 0 i) ++ (f j ++ [])) start ∙ ap (λ (t : List X). flat_map f (range_with_len 0 i) ++ t) (append-nil (f i))))

pub below_all : {X : Type 0} (f : ℕ → List X) (i n : ℕ) → i < n → flat_map f (range_with_len 0 n) ≡ flat_map f (range_with_len 0 (i + 1)) ++ flat_map f (range_with_len (i + 1) (n - (i + 1)))
below_all f i n below =
    let long : n ≡ (i + 1) + (n - (i + 1)) = omega arith in
    let start : 0 + (i + 1) ≡ i + 1 = omega arith in
    ap (λ (k : ℕ). flat_map f (range_with_len 0 k)) long
    ∙ (ap (flat_map f) (range_split 0 (i + 1) (n - (i + 1)))
    ∙ (flat_map-append f (range_with_len 0 (i + 1)) (range_with_len (0 + (i + 1)) (n - (i + 1)))
    ∙ ap (λ (j : ℕ). flat_map f (range_with_len 0 (i + 1)) ++ flat_map f (range_with_len j (n - (i + 1)))) start))

-- the awards of an ask, impression by impression
awards_from : (place : ℕ) (a : Ask) (imps : List ℕ) → map (award_of place) (flat_map (λ imp. map (sale_of a) (awarded_offers a.offers imp)) imps) ≡ flat_map (imp_awards place a.now a.offers) imps
awards_from place a [] = refl
awards_from place a (imp ∷ imps) =
    map-append (award_of place) (map (sale_of a) (awarded_offers a.offers imp)) (flat_map (λ imp. map (sale_of a) (awarded_offers a.offers imp)) imps)
    ∙ (ap (λ (t : List Award). t ++ map (award_of place) (flat_map (λ imp. map (sale_of a) (awarded_offers a.offers imp)) imps)) (map-map (award_of place) (sale_of a) (awarded_offers a.offers imp))
    ∙ ap (λ (t : List Award). imp_awards place a.now a.offers imp ++ t) (awards_from place a imps))

pub ask_awards_are : (place : ℕ) (a : Ask) → ask_awards place a ≡ awards_below place a.now a.offers (length a.imps)
ask_awards_are place a = awards_from place a (range_with_len 0 (length a.imps))

-- one more offer of an impression
abbrev pub is_sold : ℕ → Offer → Bool
is_sold imp o = eqb o.reason AWARDED && eqb o.imp imp

one_award : (place now : ℕ) (b : Bool) (o : Offer) → map (λ o. award_of place (sold_at now o)) (cond b (o ∷ []) []) ≡ cond b (award_of place (sold_at now o) ∷ []) []
one_award place now true o = refl
one_award place now false o = refl

pub imp_more : (place now : ℕ) (offers : List Offer) (imp j : ℕ) (d : Offer) → j < length offers → imp_awards place now (take (j + 1) offers) imp ≡ imp_awards place now (take j offers) imp ++ cond (is_sold imp (get_or offers j d)) (award_of place (sold_at now (get_or offers j d)) ∷ []) []
imp_more place now offers imp j d within =
    let f : Offer → Award = λ o. award_of place (sold_at now o) in
    let o : Offer = get_or offers j d in
    ap (map f) (filter_more (is_sold imp) offers j d within)
    ∙ (map-append f (filter (is_sold imp) (take j offers)) (cond (is_sold imp o) (o ∷ []) [])
    ∙ ap (λ (t : List Award). imp_awards place now (take j offers) imp ++ t) (one_award place now (is_sold imp o) o))

pub imp_split : (place now : ℕ) (offers : List Offer) (imp j : ℕ) → imp_awards place now offers imp ≡ imp_awards place now (take j offers) imp ++ imp_awards place now (drop j offers) imp
imp_split place now offers imp j =
    let f : Offer → Award = λ o. award_of place (sold_at now o) in
    ap (λ (os : List Offer). imp_awards place now os imp) (sym (take-append-drop j offers))
    ∙ (ap (map f) (filter-append (is_sold imp) (take j offers) (drop j offers))
    ∙ map-append f (filter (is_sold imp) (take j offers)) (filter (is_sold imp) (drop j offers)))

-- an award fits beside those before it where all of them do
pub fits_in : (front rest all : List Award) (w : Award) → all ≡ (front ++ w ∷ []) ++ rest → w.end ≡ None → committed_in front w.campaign + w.charge.0 ≤ committed_in all w.campaign
fits_in front rest all w is none =
    let f : Award → ℕ = held w.campaign in
    let one : f w ≡ w.charge.0 = held_open w.campaign w none ∙ own_here w.campaign w refl in
    omega (arith, held_sum front w.campaign, held_sum all w.campaign, ap (sum_by f) is, sum_by-append f (front ++ w ∷ []) rest, sum_by-append f front (w ∷ []), sum_by-cons f w [])

pub front_within : (front rest all : List Award) (c : ℕ) → all ≡ front ++ rest → committed_in front c ≤ committed_in all c
front_within front rest all c is =
    omega (arith, held_sum front c, held_sum all c, ap (sum_by (held c)) is, sum_by-append (held c) front rest)

-- an award of an impression between those before it and those after it
pub sold_here : (place now : ℕ) (offers : List Offer) (imp j : ℕ) (d : Offer) (b : Bool) (w : Award) → b ≡ is_sold imp (get_or offers j d) → b ≡ true → w ≡ award_of place (sold_at now (get_or offers j d)) → j < length offers
    → imp_awards place now offers imp ≡ (imp_awards place now (take j offers) imp ++ w ∷ []) ++ imp_awards place now (drop (j + 1) offers) imp
sold_here place now offers imp j d b w is sold made within =
    let front : List Award = imp_awards place now (take j offers) imp in
    let rest : List Award = imp_awards place now (drop (j + 1) offers) imp in
    let o : Offer = get_or offers j d in
    imp_split place now offers imp (j + 1)
    ∙ ap (λ (t : List Award). t ++ rest)
    (imp_more place now offers imp j d within
    ∙ (ap (λ (b : Bool). front ++ cond b (award_of place (sold_at now o) ∷ []) []) (sym is ∙ sold)
    ∙ ap (λ (v : Award). front ++ v ∷ []) (sym made)))

pub joined : (start all front rest : List Award) (w : Award) → all ≡ (front ++ w ∷ []) ++ rest → start ++ all ≡ ((start ++ front) ++ w ∷ []) ++ rest
joined start all front rest w is =
    ap (λ (t : List Award). start ++ t) is
    ∙ (sym (append_assoc start (front ++ w ∷ []) rest) ∙ ap (λ (t : List Award). t ++ rest) (sym (append_assoc start front (w ∷ []))))

pub lengths : (all front rest : List Award) (w : Award) → all ≡ (front ++ w ∷ []) ++ rest → length front + 1 + length rest ≡ length all
lengths all front rest w is = omega (arith, ap (λ (t : List Award). length t) is, length-append (front ++ w ∷ []) rest, length-append front (w ∷ []))

-- What the tests of an ask decide: its offers, and the ids of its impressions.
use Rattle.std.proofs.Common.{◌≡◌, ◌≢◌, ◌⊎◌, ℕ, ◌+◌, ◌<◌, ◌≤◌, List, [], ◌∷◌, Bool, not, ◌&&◌, ◌||◌, leb, eqb, ltb, length, drop, get_or, inl, inr, refl, sym, ap, ◌∙◌, arith, bytes_eq, Decides, suc}
use Rattle.std.specs.List.{All, AllPairs, list_all}
use Rattle.std.proofs.lemmas.Bool.{leb-true, le-leb}
use Rattle.std.proofs.lemmas.Bool.Decides.{Decides-and, Decides-or, Decides-not, Decides-like, Decides-eqb, Decides-ltb, Decides-at, Decides-by_and}
use Rattle.std.proofs.lemmas.Slice.Eq.{bytes_eq-Decides}
use Rattle.std.proofs.Math.Seq.{drop-cons}
use Rattle.adx_units.specs.declared.offer.Offer.{Offer}
use Rattle.adx_units.specs.declared.offer.TheConstants.{ADMITTED}
use Rattle.adx_units.specs.declared.price.TheConstants.{PRICE_LIMIT}
use Rattle.allocator_core.specs.declared.reason.TheConstants.{AWARDED, LOST_TO_HIGHER, OVER_BUDGET}
use Rattle.day_rules.specs.declared.limits.TheConstants.{MAX_LIFE, NO_IMP}
use Rattle.day_rules.specs.Asks.{IsAdmittedOffer, IsOfAdmitted, IsOffer, IsRefusal, IsRefusedOffer, NeedsTexts, is_decided}
use Rattle.day_rules.proofs.Lists.{pairs_cons, pairs_head, pairs_tail}
use Rattle.day_rules.specs.OfferTests.{are_distinct, are_others, is_admitted, is_of_admitted, is_offer, is_refused, is_refused_by, needs_texts}

Decides-leb : (a b : ℕ) → Decides (leb a b) (a ≤ b)
Decides-leb a b = (leb-true a b, le-leb a b)

-- the reasons
or_one : {P : Type 0} (x : Bool) (r n : ℕ) → Decides x P → Decides (x || eqb r n) (P ⊎ (r ≡ n))
or_one x r n d = Decides-or x (eqb r n) d (Decides-eqb r n)

to_right : {A B C D E F G : Type 0} → ((((((A ⊎ B) ⊎ C) ⊎ D) ⊎ E) ⊎ F) ⊎ G) → A ⊎ (B ⊎ (C ⊎ (D ⊎ (E ⊎ (F ⊎ G)))))
to_right (inl (inl (inl (inl (inl (inl a)))))) = inl a
to_right (inl (inl (inl (inl (inl (inr b)))))) = inr (inl b)
to_right (inl (inl (inl (inl (inr c))))) = inr (inr (inl c))
to_right (inl (inl (inl (inr d)))) = inr (inr (inr (inl d)))
to_right (inl (inl (inr e))) = inr (inr (inr (inr (inl e))))
to_right (inl (inr f)) = inr (inr (inr (inr (inr (inl f)))))
to_right (inr g) = inr (inr (inr (inr (inr (inr g)))))

to_left : {A B C D E F G : Type 0} → A ⊎ (B ⊎ (C ⊎ (D ⊎ (E ⊎ (F ⊎ G))))) → ((((((A ⊎ B) ⊎ C) ⊎ D) ⊎ E) ⊎ F) ⊎ G)
to_left (inl a) = inl (inl (inl (inl (inl (inl a)))))
to_left (inr (inl b)) = inl (inl (inl (inl (inl (inr b)))))
to_left (inr (inr (inl c))) = inl (inl (inl (inl (inr c))))
to_left (inr (inr (inr (inl d)))) = inl (inl (inl (inr d)))
to_left (inr (inr (inr (inr (inl e))))) = inl (inl (inr e))
to_left (inr (inr (inr (inr (inr (inl f)))))) = inl (inr f)
to_left (inr (inr (inr (inr (inr (inr g)))))) = inr g

refusal_decided : (r : ℕ) → Decides (is_refused_by r) (IsRefusal r)
refusal_decided r =
    let a : Bool = eqb r 3 in
    let b : Bool = a || eqb r 104 in
    let c : Bool = b || eqb r 4 in
    let d : Bool = c || eqb r 100 in
    let e : Bool = d || eqb r 101 in
    let f : Bool = e || eqb r 205 in
    Decides-like (is_refused_by r) to_right to_left
    (or_one f r 209 (or_one e r 205 (or_one d r 101 (or_one c r 100 (or_one b r 4 (or_one a r 104 (Decides-eqb r 3)))))))

of_admitted_decided : (r : ℕ) → Decides (is_of_admitted r) (IsOfAdmitted r)
of_admitted_decided r =
    or_one (is_decided r) r ADMITTED
    (Decides-or (eqb r AWARDED) (eqb r LOST_TO_HIGHER || eqb r OVER_BUDGET) (Decides-eqb r AWARDED) (or_one (eqb r LOST_TO_HIGHER) r OVER_BUDGET (Decides-eqb r LOST_TO_HIGHER)))

-- an offer
abbrev AdmittedParts : ℕ → ℕ → Offer → Type 0
AdmittedParts campaigns imps o =
    ((IsOfAdmitted o.reason × (o.imp < imps)) × (((o.campaign < campaigns) × (1 ≤ o.charge.0)) × (o.charge.0 ≤ PRICE_LIMIT))) × ((1 ≤ o.life) × (o.life ≤ MAX_LIFE))

admitted_from : (campaigns imps : ℕ) (o : Offer) → AdmittedParts campaigns imps o → IsAdmittedOffer campaigns imps o
admitted_from campaigns imps o h = record {
  reason = h.0.0.0;
  imp = h.0.0.1;
  campaign = h.0.1.0.0;
  positive = h.0.1.0.1;
  within = h.0.1.1;
  lives = h.1.0;
  ends = h.1.1;
}

admitted_parts : (campaigns imps : ℕ) (o : Offer) → IsAdmittedOffer campaigns imps o → AdmittedParts campaigns imps o
admitted_parts campaigns imps o w = (((w.reason, w.imp), ((w.campaign, w.positive), w.within)), (w.lives, w.ends))

admitted_decided : (campaigns imps : ℕ) (o : Offer) → Decides (is_admitted campaigns imps o) (IsAdmittedOffer campaigns imps o)
admitted_decided campaigns imps o =
    let reason : Bool = is_of_admitted o.reason in
    let imp : Bool = ltb o.imp imps in
    let campaign : Bool = ltb o.campaign campaigns in
    let positive : Bool = leb 1 o.charge.0 in
    let within : Bool = leb o.charge.0 PRICE_LIMIT in
    Decides-like (is_admitted campaigns imps o) (admitted_from campaigns imps o) (admitted_parts campaigns imps o)
    (Decides-and (reason && imp && (campaign && positive && within)) (leb 1 o.life && leb o.life MAX_LIFE)
    (Decides-and (reason && imp) (campaign && positive && within) (Decides-and reason imp (of_admitted_decided o.reason) (Decides-ltb o.imp imps))
    (Decides-and (campaign && positive) within (Decides-and campaign positive (Decides-ltb o.campaign campaigns) (Decides-leb 1 o.charge.0)) (Decides-leb o.charge.0 PRICE_LIMIT)))
    (Decides-and (leb 1 o.life) (leb o.life MAX_LIFE) (Decides-leb 1 o.life) (Decides-leb o.life MAX_LIFE)))

abbrev RefusedParts : ℕ → Offer → Type 0
RefusedParts imps o =
    (IsRefusal o.reason × ((o.imp < imps) ⊎ (o.imp ≡ NO_IMP))) × (((o.campaign ≡ 0) × (o.charge.0 ≡ 0)) × (o.life ≡ 0))

refused_from : (imps : ℕ) (o : Offer) → RefusedParts imps o → IsRefusedOffer imps o
refused_from imps o h = record { reason = h.0.0; imp = h.0.1; campaign = h.1.0.0; charge = h.1.0.1; life = h.1.1 }

refused_parts : (imps : ℕ) (o : Offer) → IsRefusedOffer imps o → RefusedParts imps o
refused_parts imps o w = ((w.reason, w.imp), ((w.campaign, w.charge), w.life))

refused_decided : (imps : ℕ) (o : Offer) → Decides (is_refused imps o) (IsRefusedOffer imps o)
refused_decided imps o =
    let reason : Bool = is_refused_by o.reason in
    let imp : Bool = ltb o.imp imps || eqb o.imp NO_IMP in
    let campaign : Bool = eqb o.campaign 0 in
    let charge : Bool = eqb o.charge.0 0 in
    Decides-like (is_refused imps o) (refused_from imps o) (refused_parts imps o)
    (Decides-and (reason && imp) (campaign && charge && eqb o.life 0)
    (Decides-and reason imp (refusal_decided o.reason) (or_one (ltb o.imp imps) o.imp NO_IMP (Decides-ltb o.imp imps)))
    (Decides-and (campaign && charge) (eqb o.life 0) (Decides-and campaign charge (Decides-eqb o.campaign 0) (Decides-eqb o.charge.0 0)) (Decides-eqb o.life 0)))

offer_decided : (campaigns imps : ℕ) (o : Offer) → Decides (is_offer campaigns imps o) (IsOffer campaigns imps o)
offer_decided campaigns imps o = Decides-or (is_admitted campaigns imps o) (is_refused imps o) (admitted_decided campaigns imps o) (refused_decided imps o)

offers_decided : (campaigns imps : ℕ) (offers : List Offer) → Decides (list_all (is_offer campaigns imps) offers) (All (IsOffer campaigns imps) offers)
offers_decided campaigns imps offers =
    Decides-by_and (is_offer campaigns imps) (IsOffer campaigns imps) (list_all (is_offer campaigns imps)) (offer_decided campaigns imps) refl (λ _ _. refl) offers

pub offers_told : (campaigns imps n : ℕ) (offers given : List Offer) (r : Bool) → n ≡ imps → given ≡ offers → r ≡ list_all (is_offer campaigns n) given → Decides r (All (IsOffer campaigns imps) offers)
offers_told campaigns imps n offers given r many same is =
    Decides-at r (list_all (is_offer campaigns imps) offers)
    (is ∙ (ap (λ (m : ℕ). list_all (is_offer campaigns m) given) many ∙ ap (list_all (is_offer campaigns imps)) same))
    (offers_decided campaigns imps offers)

pub needs_decided : (o : Offer) → Decides (needs_texts o) (NeedsTexts o)
needs_decided o = or_one (eqb o.reason AWARDED) o.reason ADMITTED (Decides-eqb o.reason AWARDED)

-- the ids
others_decided : (id : List ℕ) (ids : List (List ℕ)) → Decides (are_others id ids) (All (λ other. id ≢ other) ids)
others_decided id ids =
    Decides-by_and (λ other. not (bytes_eq id other)) (λ other. id ≢ other) (list_all (λ other. not (bytes_eq id other)))
    (λ other. Decides-not (bytes_eq id other) (bytes_eq-Decides id other)) refl (λ _ _. refl) ids

abbrev IsOther : List ℕ → List ℕ → Type 0
IsOther i j = i ≢ j

pub distinct_decided : (ids : List (List ℕ)) → Decides (are_distinct ids) (AllPairs (λ i j. i ≢ j) ids)
distinct_decided [] = (λ _. λ i j d before below. absurd (omega arith), λ _. refl)
distinct_decided (id ∷ ids) =
    Decides-like (are_distinct (id ∷ ids)) (λ h. pairs_cons IsOther id ids h.0 h.1) (λ pairs. (pairs_head IsOther id ids pairs, pairs_tail IsOther id ids pairs))
    (Decides-and (are_others id ids) (are_distinct ids) (others_decided id ids) (distinct_decided ids))

rest_of : (ids : List (List ℕ)) (place : ℕ) (id : List ℕ) → place < length ids → id ≡ get_or ids place id → drop place ids ≡ id ∷ drop (place + 1) ids
rest_of ids place id within is =
    let next : suc place ≡ place + 1 = omega arith in
    drop-cons ids place id within
    ∙ (ap (λ (k : ℕ). get_or ids place id ∷ drop k ids) next ∙ ap (λ (x : List ℕ). x ∷ drop (place + 1) ids) (sym is))

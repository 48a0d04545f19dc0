-- The ask that all bids make is one that a day takes.
use Rattle.std.proofs.Common.{◌≡◌, ◌≢◌, ◌≤◌, ◌<◌, ℕ, zero, suc, ◌+◌, ◌^◌, List, [], ◌∷◌, length, map, Bool, true, false, not, ◌||◌, Some, bytes_eq, refl, sym, ap, ◌∙◌, subst, arith}
use Rattle.std.specs.List.{All, AllPairs, Any, enumerate_from, list_any, slice_get}
use Rattle.std.proofs.lemmas.Bool.Decides.{not_from_Decides}
use Rattle.std.proofs.lemmas.Slice.Eq.{bytes_eq-Decides}
use Rattle.std.proofs.lemmas.List.{length-map}
use Rattle.allocator_core.specs.declared.reason.TheConstants.{AWARDED, LOST_TO_HIGHER, OVER_BUDGET}
use Rattle.std.proofs.lemmas.List.Elements.{All-nil, All-cons, All-map}
use Rattle.day_rules.proofs.Lists.{any_here, any_cons, pairs_cons}
use Rattle.rtb_request.proofs.Distinct.{and_true}
use Rattle.rtb_request.specs.Distinct.{all_distinct}
use Rattle.rtb_request.specs.declared.bid_request.BidRequest.{BidRequest}
use Rattle.rtb_request.specs.declared.imp.Imp.{Imp}
use Rattle.adx_units.specs.declared.offer.Offer.{Offer}
use Rattle.deal_floor.specs.declared.campaign.Campaign.{Campaign}
use Rattle.day_rules.specs.Asks.{AreKeptTexts, AreTextsOf, IsOffer, IsWellFormed, NeedsTexts}
use Rattle.day_rules.specs.declared.ask.Ask.{Ask}
use Rattle.day_rules.specs.declared.ask.Kept.{Kept}
use Rattle.script_lines.specs.Making.{SeatedBid, offer_of, kept_of}
use Rattle.script_lines.specs.Parts.{AreOf, FitsDay}

abbrev kept_from : ℕ → List SeatedBid → List Kept
kept_from n bids = map kept_of (enumerate_from n bids)

above : (least n : ℕ) (bids : List SeatedBid) → least ≤ n → All (λ (k : Kept). least ≤ k.bid) (kept_from n bids)
above least n [] low = All-nil (λ (k : Kept). least ≤ k.bid)
above least n (x ∷ xs) low = All-cons (λ (k : Kept). least ≤ k.bid) (kept_of (n, x)) (kept_from (n + 1) xs) low (above least (n + 1) xs (omega (arith, low)))

below : (most n : ℕ) (bids : List SeatedBid) → n + length bids ≤ most → All (λ (k : Kept). k.bid < most) (kept_from n bids)
below most n [] high = All-nil (λ (k : Kept). k.bid < most)
below most n (x ∷ xs) high = All-cons (λ (k : Kept). k.bid < most) (kept_of (n, x)) (kept_from (n + 1) xs) (omega (arith, high)) (below most (n + 1) xs (omega (arith, high)))

abbrev IsBefore : Kept → Kept → Type 0
IsBefore k l = k.bid < l.bid

ordered : (n : ℕ) (bids : List SeatedBid) → AllPairs IsBefore (kept_from n bids)
ordered n [] = λ i j d before below. absurd (omega arith)
ordered n (x ∷ xs) = pairs_cons IsBefore (kept_of (n, x)) (kept_from (n + 1) xs) (above (suc n) (n + 1) xs (omega arith)) (ordered (n + 1) xs)

module _ (r : BidRequest) (cs : List Campaign) where
  needed : (n place : ℕ) (bids : List SeatedBid) (o : Offer) → All (FitsDay r cs) bids → slice_get (map (offer_of r cs) bids) place ≡ Some o
      → NeedsTexts o → Any (AreTextsOf (n + place)) (kept_from n bids)
  needed n place [] o fit at needs = absurd (cc at)
  needed n zero (x ∷ xs) o fit at needs =
      let same : offer_of r cs x ≡ o = cc at in
      let texts = (fit 0 x (omega arith)).texts (subst NeedsTexts (sym same) needs) in
      any_here (AreTextsOf (n + 0)) (kept_of (n, x)) (kept_from (n + 1) xs) (omega arith, texts)
  needed n (suc place) (x ∷ xs) o fit at needs =
      any_cons (AreTextsOf (n + suc place)) (kept_of (n, x)) (kept_from (n + 1) xs)
      (subst (λ p. Any (AreTextsOf p) (kept_from (n + 1) xs)) (omega arith) (needed (n + 1) place xs o (λ i d low. fit (suc i) d (omega (arith, low))) at needs))

-- no two are the same
or_false : (a b : Bool) → (a || b) ≡ false → (a ≡ false) × (b ≡ false)
or_false false b h = (refl, h)
or_false true b h = cc

not_true : (a : Bool) → not a ≡ true → a ≡ false
not_true true h = cc
not_true false h = refl

none_same : (n : List ℕ) (ns : List (List ℕ)) → list_any (bytes_eq n) ns ≡ false → All (λ m. n ≢ m) ns
none_same n [] h = All-nil (λ m. n ≢ m)
none_same n (m ∷ ms) h =
    let parts = or_false (bytes_eq n m) (list_any (bytes_eq n) ms) h in
    All-cons (λ m. n ≢ m) m ms (not_from_Decides (bytes_eq n m) (bytes_eq-Decides n m) parts.0) (none_same n ms parts.1)

distinct_pairs : (ns : List (List ℕ)) → all_distinct ns ≡ true → AllPairs (λ m n. m ≢ n) ns
distinct_pairs [] h = λ i j d before below. absurd (omega arith)
distinct_pairs (n ∷ ns) h =
    let d = and_true (not (list_any (bytes_eq n) ns)) (all_distinct ns) h in
    pairs_cons (λ m n. m ≢ n) n ns (none_same n ns (not_true _ d.0)) (distinct_pairs ns d.1)

abbrev id_of : Imp → List ℕ
id_of i = i.id

-- what bids make is an ask that a day takes, and none of its offers is decided
module _ (r : BidRequest) (cs : List Campaign) (bids : List SeatedBid) (offers : List Offer) (kept : List Kept) (h : AreOf r cs bids offers kept) where
  offers_fit : All (IsOffer (length cs) (length r.imps)) offers
  offers_fit =
      subst (All (IsOffer (length cs) (length r.imps))) (sym h.offers_are)
      (All-map (IsOffer (length cs) (length r.imps)) (offer_of r cs) bids (λ k d low. (h.fit k d low).offer))

  kept_fit : AreKeptTexts offers kept
  kept_fit = record {
    ordered = subst (AllPairs IsBefore) (sym h.kept_are) (ordered 0 bids);
    placed = subst (All (λ (k : Kept). k.bid < length offers)) (sym h.kept_are) (below (length offers) 0 bids (let e : length offers ≡ length bids = ap length h.offers_are ∙ length-map bids (offer_of r cs) in omega arith));
    needed = λ place o at needs.
        subst (λ ks. Any (AreTextsOf place) ks) (sym h.kept_are)
        (subst (λ p. Any (AreTextsOf p) (kept_from 0 bids)) (zero_add place)
        (needed r cs 0 place bids o h.fit (ap (λ os. slice_get os place) (sym h.offers_are) ∙ at) needs));
  }
    where
      zero_add : (n : ℕ) → 0 + n ≡ n
      zero_add n = omega arith

  pub well_formed : (a : Ask) → a.imps ≡ map id_of r.imps → a.offers ≡ offers → a.kept ≡ kept → a.now < 2 ^ 63 → length offers ≤ 1024
      → IsWellFormed (length cs) a
  well_formed a imps_are offers_are kept_are soon few =
      let many : length a.imps ≡ length r.imps = ap length imps_are ∙ length-map r.imps id_of in
      record {
        some_imp = subst (λ n. 1 ≤ n) (sym many) r.some_imp;
        few_imps = subst (λ n. n ≤ 16) (sym many) r.few_imps;
        distinct = subst (AllPairs (λ i j. i ≢ j)) (sym imps_are) (distinct_pairs (map id_of r.imps) r.distinct);
        few_offers = subst (λ os. length os ≤ 1024) (sym offers_are) few;
        now = soon;
        offers = subst (λ os. All (IsOffer (length cs) (length a.imps)) os) (sym offers_are) (subst (λ n. All (IsOffer (length cs) n) offers) (sym many) offers_fit);
        kept = subst (λ os. AreKeptTexts os a.kept) (sym offers_are) (subst (AreKeptTexts offers) (sym kept_are) kept_fit);
      }

  pub undecided : (os : List Offer) → os ≡ offers → All (λ (o : Offer). (o.reason ≢ AWARDED) × (o.reason ≢ LOST_TO_HIGHER) × (o.reason ≢ OVER_BUDGET)) os
  undecided os offers_are =
      subst (All (λ (o : Offer). (o.reason ≢ AWARDED) × (o.reason ≢ LOST_TO_HIGHER) × (o.reason ≢ OVER_BUDGET))) (sym (offers_are ∙ h.offers_are))
      (All-map (λ (o : Offer). (o.reason ≢ AWARDED) × (o.reason ≢ LOST_TO_HIGHER) × (o.reason ≢ OVER_BUDGET)) (offer_of r cs) bids
      (λ k d low. ((h.fit k d low).not_awarded, (h.fit k d low).not_lost, (h.fit k d low).not_over)))

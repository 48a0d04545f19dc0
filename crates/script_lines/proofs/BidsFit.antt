-- Any bid makes an offer that a day takes.
use Rattle.std.proofs.Common.{◌≡◌, ◌≢◌, ◌⊎◌, inl, inr, ℕ, ◌<◌, ◌≤◌, min, List, length, Bool, true, false, not, cond, ◌&&◌, ◌==◌, nat_le, nat_lt, is_some, is_ok, Option, Some, None, Result, Ok, Err, refl, sym, ap, ◌∙◌, subst, arith}
use Rattle.std.specs.List.{position, position_or_len}
use Rattle.std.proofs.lemmas.Bool.{ltb-true, leb-true}
use Rattle.adx_units.specs.Money.{units}
use Rattle.adx_units.specs.declared.offer.Offer.{Offer}
use Rattle.adx_units.specs.declared.offer.TheConstants.{ADMITTED}
use Rattle.adx_units.specs.declared.price.PriceFault.{PriceFault}
use Rattle.adx_units.specs.declared.price.TheConstants.{PRICE_LIMIT}
use Rattle.adx_units.specs.declared.units.Units.{Units}
use Rattle.rtb_request.proofs.Distinct.{and_true}
use Rattle.rtb_request.specs.declared.bid_request.BidRequest.{BidRequest}
use Rattle.rtb_request.specs.declared.deal.Deal.{Deal}
use Rattle.rtb_request.specs.declared.imp.Imp.{Imp}
use Rattle.rtb_request.specs.Ids.{imp_has_id}
use Rattle.rtb_response.specs.Prices.{is_in_range}
use Rattle.day_rules.specs.Asks.{IsAdmittedOffer, IsOffer, IsRefusal, NeedsTexts}
use Rattle.deal_floor.specs.Admission.{Case, item_at, imp_place, imp_of, campaign_place, deal_by, deal_of, holds_of, number_or_zero, units_of, price_units, kept_length, deal_is_open_to, charge_by, life_by, admitted_by, can_be_sold, deal_eligible, seat_allowed, offer, place_or, refusal_of, refused_offer, refused_unless}
use Rattle.deal_floor.specs.Pairs.{is_campaign}
use Rattle.deal_floor.specs.Reasons.{number_of}
use Rattle.deal_floor.specs.declared.campaign.Campaign.{Campaign}
use Rattle.deal_floor.specs.declared.reason.Reason.{Reason}
use Rattle.deal_floor.specs.declared.terms.TheConstants.{MOST_KEPT, USUAL_LIFE, NO_IMP}
use Rattle.script_lines.specs.Making.{SeatedBid, offer_by, offer_of}
use Rattle.script_lines.specs.Parts.{FitsDay}
use Rattle.script_lines.proofs.Bounds.{not_zero}

-- a place that was found is one of the list
found_by : (b : Bool) (k n : ℕ) → (b ≡ true → k < n) → is_some (cond b (Some k) None) ≡ true → number_or_zero (λ (m : ℕ). m) (cond b (Some k) None) < n
found_by true k n low h = low refl
found_by false k n low h = absurd (cc h)

found_in : {A : Type 0} (p : A → Bool) (xs : List A) → is_some (position p xs) ≡ true → number_or_zero (λ (m : ℕ). m) (position p xs) < length xs
found_in p xs h = found_by (nat_lt (position_or_len p xs) (length xs)) (position_or_len p xs) (length xs) (λ e. ltb-true (position_or_len p xs) (length xs) e) h

or_none_by : (b : Bool) (k n other : ℕ) → (b ≡ true → k < n) → (place_or other (cond b (Some k) None) < n) ⊎ (place_or other (cond b (Some k) None) ≡ other)
or_none_by true k n other low = inl (low refl)
or_none_by false k n other low = inr refl

or_none_in : {A : Type 0} (p : A → Bool) (xs : List A) (other : ℕ) → (place_or other (position p xs) < length xs) ⊎ (place_or other (position p xs) ≡ other)
or_none_in p xs other = or_none_by (nat_lt (position_or_len p xs) (length xs)) (position_or_len p xs) (length xs) other (λ e. ltb-true (position_or_len p xs) (length xs) e)

-- where an item has a property, its place was found
placed_by : {A : Type 0} (xs : List A) (test : A → Bool) (o : Option ℕ) → holds_of test (item_at xs o) ≡ true → is_some o ≡ true
placed_by xs test None h = absurd (cc h)
placed_by xs test (Some k) h = refl

-- a price
price_by : (p : Result Units PriceFault) → is_in_range p ≡ true → is_ok p ≡ true → (1 ≤ units_of p) × (units_of p ≤ PRICE_LIMIT)
price_by (Ok u) range ok =
    let both = and_true (nat_le 1 u.0) (nat_le u.0 PRICE_LIMIT) range in
    (leb-true 1 u.0 both.0, leb-true u.0 PRICE_LIMIT both.1)
price_by (Err e) range ok = absurd (cc ok)

-- what is paid
abbrev IsPaid : Units → Type 0
IsPaid u = (1 ≤ u.0) × (u.0 ≤ PRICE_LIMIT)

not_true : (a : Bool) → not a ≡ true → a ≡ false
not_true true h = cc
not_true false h = refl

paid_by : (fixed : Bool) (d : Deal) (price : ℕ) → IsPaid (units price) → (fixed && d.floor.0 == 0) ≡ false → IsPaid (cond fixed d.floor (units price))
paid_by true d price paid some = (not_zero d.floor.0 some, d.in_range)
paid_by false d price paid some = paid

paid : (deal : Option Deal) (price : ℕ) → IsPaid (units price) → ((d : Deal) → deal ≡ Some d → (d.fixed && d.floor.0 == 0) ≡ false)
    → IsPaid (charge_by deal price)
paid None price is some = is
paid (Some d) price is some = paid_by d.fixed d price is (some d refl)

open_by : (id : Option (List ℕ)) (i : Option Imp) (deal : Option Deal) (test : Deal → Bool) (private : Bool)
    → cond (is_some id) (holds_of test deal) (not private) ≡ true → deal ≡ deal_by id i → (d : Deal) → deal ≡ Some d → test d ≡ true
open_by None i deal test private h none d is = absurd (cc (sym none ∙ is))
open_by (Some id) i deal test private h some d is = sym (ap (holds_of test) is) ∙ h

-- seconds
life_by_some : (p q : Bool) (bid imp : ℕ) → (p ≡ false → 1 ≤ bid) → (q ≡ false → 1 ≤ imp) → 1 ≤ cond p (cond q USUAL_LIFE imp) bid
life_by_some true true bid imp b i = omega arith
life_by_some true false bid imp b i = i refl
life_by_some false q bid imp b i = b refl

lives : (bid imp : ℕ) → (1 ≤ life_by bid imp) × (life_by bid imp ≤ 604800)
lives bid imp =
    let life = cond (bid == 0) (cond (imp == 0) USUAL_LIFE imp) bid in
    let some : 1 ≤ life = life_by_some (bid == 0) (imp == 0) bid imp (λ h. not_zero bid h) (λ h. not_zero imp h) in
    bounded life some
  where
    bounded : (life : ℕ) → 1 ≤ life → (1 ≤ min life 604800) × (min life 604800 ≤ 604800)
    bounded life some = (omega (arith, some), omega arith)

-- a rule holds, and no later one refuses the bid
let_in : (b : Bool) (reason : Reason) (later : Option Reason) → refused_unless b reason later ≡ None → (b ≡ true) × (later ≡ None)
let_in true reason later h = (refl, h)
let_in false reason later h = absurd (cc h)

-- a bid that each rule lets in
module _ (c : Case) (h : refusal_of c ≡ None) where
  admitted_fits : IsAdmittedOffer (length c.campaigns) (length c.request.imps) (offer c) × (kept_length c.bidid c.seat c.bid ≤ MOST_KEPT)
  admitted_fits =
      let first = let_in (can_be_sold c) Reason.NotEligible _ h in
      let second = let_in (seat_allowed c) Reason.SeatNotAllowed _ first.1 in
      let third = let_in (deal_eligible c) Reason.DealNotEligible _ second.1 in
      let sold = first.0 in
      let eligible = third.0 in
      let whole = and_true c.bid.whole _ sold in
      let price = and_true (is_ok c.bid.price) _ whole.1 in
      let imp = and_true (holds_of (λ (i : Imp). i.sold) (imp_of c)) _ price.1 in
      let campaign = and_true (is_some (campaign_place c)) _ imp.1 in
      let texts = and_true (nat_le (kept_length c.bidid c.seat c.bid) MOST_KEPT) _ campaign.1 in
      let deal_fits : (d : Deal) → deal_of c ≡ Some d → (d.fixed && d.floor.0 == 0) ≡ false =
      λ d is.
      let open_to = open_by c.bid.dealid (imp_of c) (deal_of c) (deal_is_open_to c.seat c.bid) (holds_of (λ (i : Imp). i.private_only) (imp_of c)) eligible refl d is in
      not_true _ (and_true _ _ (and_true _ _ open_to).1).1 in
      let charge = paid (deal_of c) (price_units c) (price_by c.bid.price c.bid.price_in_range price.0) deal_fits in
      let life = lives c.bid.exp (number_or_zero (λ (i : Imp). i.exp) (imp_of c)) in (
        record {
          reason = inr refl;
          imp = found_in (imp_has_id c.bid.impid) c.request.imps (placed_by c.request.imps (λ (i : Imp). i.sold) (imp_place c) imp.0);
          campaign = found_in (is_campaign c.bidder c.seat.seat c.bid.cid) c.campaigns campaign.0;
          positive = charge.0;
          within = charge.1;
          lives = life.0;
          ends = life.1;
        },
        leb-true (kept_length c.bidid c.seat c.bid) MOST_KEPT texts.0,
      )

-- a reason of admission is none of the day's
refusal : (reason : Reason) → IsRefusal (number_of reason)
refusal Reason.NotEligible = inl refl
refusal Reason.SeatNotAllowed = inr (inl refl)
refusal Reason.DealNotEligible = inr (inr (inl refl))
refusal Reason.BelowFloor = inr (inr (inr (inl refl)))
refusal Reason.BelowDealFloor = inr (inr (inr (inr (inl refl))))
refusal Reason.BlockedAdvertiser = inr (inr (inr (inr (inr (inl refl)))))
refusal Reason.BlockedCategory = inr (inr (inr (inr (inr (inr refl)))))

few : (reason : Reason) → (1 ≤ number_of reason) × (number_of reason ≤ 209) × (number_of reason ≢ 102)
few Reason.NotEligible = (omega arith, omega arith, λ e. omega (arith, e))
few Reason.SeatNotAllowed = (omega arith, omega arith, λ e. omega (arith, e))
few Reason.DealNotEligible = (omega arith, omega arith, λ e. omega (arith, e))
few Reason.BelowFloor = (omega arith, omega arith, λ e. omega (arith, e))
few Reason.BelowDealFloor = (omega arith, omega arith, λ e. omega (arith, e))
few Reason.BlockedAdvertiser = (omega arith, omega arith, λ e. omega (arith, e))
few Reason.BlockedCategory = (omega arith, omega arith, λ e. omega (arith, e))

module _ (r : BidRequest) (cs : List Campaign) (x : SeatedBid) where
  abbrev case : Case
  case = record { request = r; campaigns = cs; bidder = x.bidder; bidid = x.bidid; seat = x.seat; bid = x.bid }

  fits_as : (o : Offer) → offer_of r cs x ≡ o → IsOffer (length cs) (length r.imps) o → o.reason ≢ 0 → o.reason ≢ 102 → o.reason ≢ 1001
      → (NeedsTexts o → kept_length x.bidid x.seat x.bid ≤ MOST_KEPT) → FitsDay r cs x
  fits_as o same is awarded lost over texts = record {
    offer = subst (IsOffer (length cs) (length r.imps)) (sym same) is;
    not_awarded = λ e. awarded (sym (ap (λ (p : Offer). p.reason) same) ∙ e);
    not_lost = λ e. lost (sym (ap (λ (p : Offer). p.reason) same) ∙ e);
    not_over = λ e. over (sym (ap (λ (p : Offer). p.reason) same) ∙ e);
    texts = λ needs. texts (subst NeedsTexts same needs);
  }

  fits_by : (o : Option Reason) → refusal_of case ≡ o → FitsDay r cs x
  fits_by None e =
      let fits = admitted_fits case e in
      fits_as (offer case) (ap (λ p. offer_by r x.bid (admitted_by (offer case) p)) e) (inl fits.0) (λ a. omega (arith, a)) (λ a. omega (arith, a)) (λ a. omega (arith, a)) (λ needs. fits.1)
  fits_by (Some reason) e =
      let n = few reason in
      fits_as (refused_offer r x.bid reason) (ap (λ p. offer_by r x.bid (admitted_by (offer case) p)) e)
      (inr (record { reason = refusal reason; imp = or_none_in (imp_has_id x.bid.impid) r.imps NO_IMP; campaign = refl; charge = refl; life = refl }))
      (λ a. omega (arith, n.0, a)) (λ a. n.2 a) (λ a. omega (arith, n.1, a)) (λ needs. absurd (unneeded (number_of reason) n.0 n.1 needs))
    where
      unneeded : (n : ℕ) → 1 ≤ n → n ≤ 209 → (n ≡ 0) ⊎ (n ≡ ADMITTED) → ⊥
      unneeded n some low (inl a) = omega (arith, some, a)
      unneeded n some low (inr a) = omega (arith, low, a)

  pub fits_day : FitsDay r cs x
  fits_day = fits_by (refusal_of case) refl

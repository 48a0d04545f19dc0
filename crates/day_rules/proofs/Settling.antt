-- A settled ask: what it keeps, that settling it again gives it back, and that it may follow.
use Rattle.std.proofs.Common.{◌≡◌, ◌≢◌, ℕ, ◌^◌, ◌<◌, ◌≤◌, max, List, map, length, get_or, Bool, true, false, cond, ◌||◌, eqb, refl, sym, ap, ◌∙◌, subst, inl, inr, arith, None}
use Rattle.std.specs.List.{All}
use Rattle.std.proofs.lemmas.List.{get_or-map, length-map, same_lists}
use Rattle.std.proofs.lemmas.List.Elements.{All-weaker}
use Rattle.std.proofs.lemmas.Option.{get_or_from_slice_get, slice_get_within, slice_get-get_or}
use Rattle.std.proofs.lemmas.Bool.{cases_eq, cond-false, or_from, or_parts, both_ways, eq-eqb, ne_eqb}
use Rattle.adx_units.specs.declared.units.Units.{Units}
use Rattle.adx_units.specs.declared.offer.Offer.{Offer}
use Rattle.adx_units.specs.declared.offer.TheConstants.{ADMITTED}
use Rattle.allocator_core.specs.Choice.{Standing, chosen_at, standing_at, fits, is_place, decided, reason_at, settled_offers}
use Rattle.allocator_core.specs.declared.reason.TheConstants.{AWARDED, LOST_TO_HIGHER, OVER_BUDGET}
use Rattle.day_rules.specs.declared.ask.Ask.{Ask}
use Rattle.day_rules.specs.declared.ask.Kept.{Kept}
use Rattle.day_rules.specs.declared.entry.Entry.{Entry}
use Rattle.day_rules.specs.Books.{made, committed, latest}
use Rattle.day_rules.specs.Asks.{IsOfAdmitted, IsRefusal, IsOffer, IsWellFormed, IsUndecided, NeedsTexts, AreKeptTexts, settled, settled_kept, admitted_again, is_decided, undecided}
use Rattle.day_rules.specs.Terms.{Terms, budgets_after}
use Rattle.day_rules.specs.Replies.{ask_of, asks_with, bids_with, text_with}
use Rattle.day_rules.specs.Legal.{AskMayFollow}
use Rattle.allocator_core.proofs.Settled.{with_reason, length-settled, settled_at}
use Rattle.allocator_core.proofs.Choosing.{IsUndecidedReason, reason_of_admitted, reason_of_refused}
use Rattle.day_rules.proofs.Keeping.{kept_again, stays_ordered, stays_all, stays_any}

-- what a decided offer was
admitted_decided : (o : Offer) (chosen does_fit : Bool) → admitted_again (with_reason o (decided chosen does_fit)) ≡ with_reason o ADMITTED
admitted_decided o true does_fit = refl
admitted_decided o false true = refl
admitted_decided o false false = refl

not_decided : (r : ℕ) → IsUndecidedReason r → (is_decided r) ≡ false
not_decided r h =
    or_from (eqb r AWARDED) _ (ne_eqb r AWARDED h.0) (or_from (eqb r LOST_TO_HIGHER) (eqb r OVER_BUDGET) (ne_eqb r LOST_TO_HIGHER h.1) (ne_eqb r OVER_BUDGET h.2))

pub admitted_as_was : (budgets : List Units) (before : Standing) (offers : List Offer) (place : ℕ) (o : Offer) → IsUndecidedReason o.reason → admitted_again (with_reason o (reason_at budgets before offers place o)) ≡ o
admitted_as_was budgets before offers place o h = elim (cases_eq o.reason ADMITTED) [
  | inl admitted ↦
      let standing : Standing = standing_at budgets before offers o.imp in
      ap (λ (r : ℕ). admitted_again (with_reason o r)) (reason_of_admitted budgets before offers place o admitted)
      ∙ (admitted_decided o (is_place (chosen_at budgets standing offers o.imp) place) (fits budgets standing o)
      ∙ ap (with_reason o) (sym admitted))
  | inr refused ↦
      ap (λ (r : ℕ). admitted_again (with_reason o r)) (reason_of_refused budgets before offers place o refused)
      ∙ cond-false _ _ o (not_decided o.reason h)
]

-- a settled list, read as undecided, is the list that was settled
pub undecided_again : (budgets : List Units) (before : Standing) (offers : List Offer) → All (λ o. IsUndecidedReason o.reason) offers → map admitted_again (settled_offers budgets before offers) ≡ offers
undecided_again budgets before offers h =
    let s : List Offer = settled_offers budgets before offers in
    let long : length (map admitted_again s) ≡ length offers = length-map s admitted_again ∙ length-settled budgets before offers in
    same_lists (map admitted_again s) offers long (λ k d below.
    let within : k < length offers = omega arith in
    let inside : k < length s = omega (arith, length-settled budgets before offers) in
    get_or-map admitted_again s k d d inside
    ∙ (ap admitted_again (settled_at budgets before offers k d within)
    ∙ admitted_as_was budgets before offers k (get_or offers k d) (h k d within)))

-- settling again the undecided form of a settled ask gives it back
pub settled_again : (terms : Terms) (history : List Entry) (a : Ask) → IsUndecided a → settled terms history (undecided (settled terms history a)) ≡ settled terms history a
settled_again terms history a h =
    let budgets : List Units = budgets_after terms history in
    let decide : List Offer → List Offer = settled_offers budgets (committed history) in
    let build : ℕ → List Offer → List Kept → Ask = λ now offers kept. record a {
      now = now;
      first = length (made history);
      offers = offers;
      kept = kept;
    } in
    let now : ℕ = max a.now (latest history) in
    let kept : List Kept = settled_kept (decide a.offers) a.kept in
    let times : max now (latest history) ≡ now = omega arith in
    let offers : decide (map admitted_again (decide a.offers)) ≡ decide a.offers = ap decide (undecided_again budgets (committed history) a.offers h) in
    ap (λ (t : ℕ). build t (decide (map admitted_again (decide a.offers))) (settled_kept (decide (map admitted_again (decide a.offers))) kept)) times
    ∙ (ap (λ (os : List Offer). build now os (settled_kept os kept)) offers
    ∙ ap (build now (decide a.offers)) (kept_again (decide a.offers) a.kept))

-- the undecided form of an ask has no reason that only the day gives
undecided_reason : (o : Offer) (b : Bool) → is_decided o.reason ≡ b → IsUndecidedReason (cond b (with_reason o ADMITTED) o).reason
undecided_reason o true h = (omega arith, omega arith, omega arith)
undecided_reason o false h =
    let outer = or_parts (eqb o.reason AWARDED) (eqb o.reason LOST_TO_HIGHER || eqb o.reason OVER_BUDGET) h in
    let inner = or_parts (eqb o.reason LOST_TO_HIGHER) (eqb o.reason OVER_BUDGET) outer.1 in (
      λ same. both_ways (eqb o.reason AWARDED) outer.0 (eq-eqb o.reason AWARDED same),
      λ same. both_ways (eqb o.reason LOST_TO_HIGHER) inner.0 (eq-eqb o.reason LOST_TO_HIGHER same),
      λ same. both_ways (eqb o.reason OVER_BUDGET) inner.1 (eq-eqb o.reason OVER_BUDGET same),
    )

pub is_undecided : (a : Ask) → IsUndecided (undecided a)
is_undecided a k d below =
    let P : Offer → Type 0 = λ o. IsUndecidedReason o.reason in
    let within : k < length a.offers = omega (arith, length-map a.offers admitted_again) in
    let o : Offer = get_or a.offers k d in
    subst P (sym (get_or-map admitted_again a.offers k d d within)) (undecided_reason o (is_decided o.reason) refl)

-- the day decides only what was admitted
decided_is : (chosen does_fit : Bool) → IsOfAdmitted (decided chosen does_fit)
decided_is true does_fit = inl (inl refl)
decided_is false true = inl (inr (inl refl))
decided_is false false = inl (inr (inr refl))

admitted_only : (r : ℕ) → IsUndecidedReason r → IsOfAdmitted r → r ≡ ADMITTED
admitted_only r h (inl (inl e)) = absurd (h.0 e)
admitted_only r h (inl (inr (inl e))) = absurd (h.1 e)
admitted_only r h (inl (inr (inr e))) = absurd (h.2 e)
admitted_only r h (inr e) = e

pub refusal_other : (r : ℕ) → IsRefusal r → r ≢ ADMITTED
refusal_other r (inl e) h = omega arith
refusal_other r (inr (inl e)) h = omega arith
refusal_other r (inr (inr (inl e))) h = omega arith
refusal_other r (inr (inr (inr (inl e)))) h = omega arith
refusal_other r (inr (inr (inr (inr (inl e))))) h = omega arith
refusal_other r (inr (inr (inr (inr (inr (inl e)))))) h = omega arith
refusal_other r (inr (inr (inr (inr (inr (inr e)))))) h = omega arith

pub refusal_not_awarded : (r : ℕ) → IsRefusal r → r ≢ AWARDED
refusal_not_awarded r (inl e) h = omega arith
refusal_not_awarded r (inr (inl e)) h = omega arith
refusal_not_awarded r (inr (inr (inl e))) h = omega arith
refusal_not_awarded r (inr (inr (inr (inl e)))) h = omega arith
refusal_not_awarded r (inr (inr (inr (inr (inl e))))) h = omega arith
refusal_not_awarded r (inr (inr (inr (inr (inr (inl e)))))) h = omega arith
refusal_not_awarded r (inr (inr (inr (inr (inr (inr e)))))) h = omega arith

offer_settled : (campaigns imps : ℕ) (budgets : List Units) (before : Standing) (offers : List Offer) (place : ℕ) (o : Offer) → IsUndecidedReason o.reason → IsOffer campaigns imps o → IsOffer campaigns imps (with_reason o (reason_at budgets before offers place o))
offer_settled campaigns imps budgets before offers place o h (inl w) =
    let admitted : o.reason ≡ ADMITTED = admitted_only o.reason h w.reason in
    let standing : Standing = standing_at budgets before offers o.imp in
    let reason : IsOfAdmitted (reason_at budgets before offers place o) =
    subst IsOfAdmitted (sym (reason_of_admitted budgets before offers place o admitted)) (decided_is (is_place (chosen_at budgets standing offers o.imp) place) (fits budgets standing o)) in
    inl (record { reason = reason; imp = w.imp; campaign = w.campaign; positive = w.positive; within = w.within; lives = w.lives; ends = w.ends })
offer_settled campaigns imps budgets before offers place o h (inr w) =
    let reason : IsRefusal (reason_at budgets before offers place o) =
    subst IsRefusal (sym (reason_of_refused budgets before offers place o (refusal_other o.reason w.reason))) w.reason in
    inr (record { reason = reason; imp = w.imp; campaign = w.campaign; charge = w.charge; life = w.life })

-- an offer of a settled list that needs its texts was chosen, so it was admitted
no_mark : (chosen does_fit : Bool) → decided chosen does_fit ≢ ADMITTED
no_mark true does_fit h = omega arith
no_mark false true h = omega arith
no_mark false false h = omega arith

needs_by : (budgets : List Units) (before : Standing) (offers : List Offer) (place : ℕ) (o : Offer) → IsUndecidedReason o.reason → NeedsTexts (with_reason o (reason_at budgets before offers place o)) → (o.reason ≡ ADMITTED) × (reason_at budgets before offers place o ≡ AWARDED)
needs_by budgets before offers place o h needs = elim (cases_eq o.reason ADMITTED) [
  | inl admitted ↦
      let standing : Standing = standing_at budgets before offers o.imp in
      let is = reason_of_admitted budgets before offers place o admitted in (
        admitted,
        elim needs [
          | inl awarded ↦ awarded
          | inr mark ↦ absurd (no_mark (is_place (chosen_at budgets standing offers o.imp) place) (fits budgets standing o) (sym is ∙ mark))
        ],
      )
  | inr refused ↦
      let is = reason_of_refused budgets before offers place o refused in
      elim needs [ inl awarded ↦ absurd (h.0 (sym is ∙ awarded)) | inr mark ↦ absurd (refused (sym is ∙ mark)) ]
]

-- the texts that a settled ask keeps
kept_settled : (budgets : List Units) (before : Standing) (offers : List Offer) (kept : List Kept) → All (λ o. IsUndecidedReason o.reason) offers → AreKeptTexts offers kept → AreKeptTexts (settled_offers budgets before offers) (settled_kept (settled_offers budgets before offers) kept)
kept_settled budgets before offers kept h texts =
    let s : List Offer = settled_offers budgets before offers in
    let long : length s ≡ length offers = length-settled budgets before offers in
    let P : Kept → Type 0 = λ k. k.bid < length offers in
    let Q : Kept → Type 0 = λ k. k.bid < length s in
    record {
      ordered = stays_ordered s kept texts.ordered;
      placed = All-weaker P Q (λ k below. omega arith) (settled_kept s kept) (stays_all s (λ n. n < length offers) kept texts.placed);
      needed = λ place o at needs.
          let inside : place < length s = slice_get_within s place o at in
          let within : place < length offers = omega arith in
          let was : Offer = get_or offers place o in
          let is : o ≡ with_reason was (reason_at budgets before offers place was) =
          sym (get_or_from_slice_get s place o o at) ∙ settled_at budgets before offers place o within in
          let reasons = needs_by budgets before offers place was (h place o within) (subst NeedsTexts is needs) in
          let awarded : o.reason ≡ AWARDED = ap (λ (x : Offer). x.reason) is ∙ reasons.1 in
          stays_any s place o kept at awarded (texts.needed place was (slice_get-get_or offers place o within) (inr reasons.0));
    }

pub well_formed_settled : (campaigns : ℕ) (terms : Terms) (history : List Entry) (a : Ask) → IsWellFormed campaigns a → IsUndecided a → latest history < 2 ^ 63 → IsWellFormed campaigns (settled terms history a)
well_formed_settled campaigns terms history a formed h small =
    let budgets : List Units = budgets_after terms history in
    let before : Standing = committed history in
    let few = formed.few_offers in
    let now = formed.now in
    record {
      some_imp = formed.some_imp;
      few_imps = formed.few_imps;
      distinct = formed.distinct;
      few_offers = omega (arith, length-settled budgets before a.offers);
      now = omega arith;
      offers = λ k d below.
          let within : k < length a.offers = omega (arith, length-settled budgets before a.offers) in
          let P : Offer → Type 0 = λ o. IsOffer campaigns (length a.imps) o in
          subst P (sym (settled_at budgets before a.offers k d within))
          (offer_settled campaigns (length a.imps) budgets before a.offers k (get_or a.offers k d) (h k d within) (formed.offers k d within));
      kept = kept_settled budgets before a.offers a.kept h formed.kept;
    }

-- an ask that is new and within the limits may follow, once it is settled
pub settled_follows : (terms : Terms) (history : List Entry) (a : Ask) → IsWellFormed (length terms.budgets) a → IsUndecided a → latest history < 2 ^ 63 → ask_of a.auction history ≡ None → asks_with history ≤ terms.limits.auctions → bids_with history (settled terms history a) ≤ terms.limits.bids → text_with history (settled terms history a) ≤ terms.limits.text → AskMayFollow terms history (settled terms history a)
settled_follows terms history a formed h small fresh auctions bids text = record {
  well_formed = well_formed_settled (length terms.budgets) terms history a formed h small;
  new = fresh;
  is_settled = settled_again terms history a h;
  auctions = auctions;
  bids = bids;
  text = text;
}

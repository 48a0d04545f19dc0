-- Offers and kept texts that are what they settle to again.
use Rattle.std.proofs.Common.{◌≡◌, ◌≢◌, ◌⊎◌, ℕ, ◌+◌, ◌<◌, ◌≤◌, List, [], ◌∷◌, map, length, get_or, Bool, true, false, cond, ◌&&◌, ◌||◌, eqb, inl, inr, refl, sym, ap, ◌∙◌, subst, arith, Option, Some, None, Decides}
use Rattle.std.specs.List.{All, cons_option, filter_map, list_all}
use Rattle.std.specs.Option.{option_map_or}
use Rattle.std.proofs.lemmas.Bool.{eqb-false, false≢true, or_parts}
use Rattle.std.proofs.lemmas.Bool.Decides.{Decides-and, Decides-at, Decides-by_and, Decides-eqb, Decides-like}
use Rattle.std.proofs.lemmas.List.{get_or-map, length-map, same_lists}
use Rattle.std.proofs.lemmas.List.Elements.{All-cons, All-head, All-map, All-nil, All-tail, All-weaker}
use Rattle.adx_units.specs.declared.offer.Offer.{Offer}
use Rattle.adx_units.specs.declared.offer.TheConstants.{ADMITTED}
use Rattle.adx_units.specs.declared.units.Units.{Units}
use Rattle.allocator_core.specs.Choice.{Standing, reason_at, settled_offers}
use Rattle.allocator_core.specs.Settling.{AreOffers, IsPriced, IsUnsettled}
use Rattle.allocator_core.specs.declared.reason.TheConstants.{AWARDED, LOST_TO_HIGHER, OVER_BUDGET}
use Rattle.allocator_core.proofs.Settled.{length-settled, settled_at, with_reason}
use Rattle.day_rules.specs.declared.ask.Kept.{Kept}
use Rattle.day_rules.specs.Asks.{IsOffer, IsRefusal, admitted_again, is_decided, is_empty, is_winners, may_be_told, settled_kept, stays, texts_of_loss}
use Rattle.day_rules.proofs.Settling.{refusal_not_awarded, refusal_other}
use Rattle.day_rules.specs.OfferTests.{stays_whole}

-- kept texts: nothing goes exactly where each of them stays whole
empty_decided : (bytes : List ℕ) → Decides (is_empty bytes) (bytes ≡ [])
empty_decided bytes = Decides-like (is_empty bytes) (nothing bytes) (λ e. ap (λ (b : List ℕ). length b) e) (Decides-eqb (length bytes) 0)
  where
    nothing : (bytes : List ℕ) → length bytes ≡ 0 → bytes ≡ []
    nothing [] e = refl
    nothing (b ∷ bs) e = absurd (omega arith)

abbrev without : Kept → List ℕ → List ℕ → List ℕ → Kept
without k nurl burl body = record k { nurl = nurl; burl = burl; body = body }

to_whole : (k : Kept) → ((k.nurl ≡ []) × (k.burl ≡ [])) × (k.body ≡ []) → Some (texts_of_loss k) ≡ Some k
to_whole k h =
    ap (λ (t : List ℕ). Some (without k t [] [])) (sym h.0.0)
    ∙ (ap (λ (t : List ℕ). Some (without k k.nurl t [])) (sym h.0.1)
    ∙ ap (λ (t : List ℕ). Some (without k k.nurl k.burl t)) (sym h.1))

from_whole : (k : Kept) → Some (texts_of_loss k) ≡ Some k → ((k.nurl ≡ []) × (k.burl ≡ [])) × (k.body ≡ [])
from_whole k e = (
  (
    sym (ap (λ (o : Option Kept). option_map_or (λ (l : Kept). l.nurl) o []) e),
    sym (ap (λ (o : Option Kept). option_map_or (λ (l : Kept). l.burl) o []) e),
  ),
  sym (ap (λ (o : Option Kept). option_map_or (λ (l : Kept). l.body) o []) e),
)

whole_by : (k : Kept) (wins told : Bool) → Decides (wins || (told && is_empty k.nurl && is_empty k.burl && is_empty k.body)) (cond wins (Some k) (cond told (Some (texts_of_loss k)) None) ≡ Some k)
whole_by k true told = (λ _. refl, λ _. refl)
whole_by k false true =
    Decides-like (is_empty k.nurl && is_empty k.burl && is_empty k.body) (to_whole k) (from_whole k)
    (Decides-and (is_empty k.nurl && is_empty k.burl) (is_empty k.body) (Decides-and (is_empty k.nurl) (is_empty k.burl) (empty_decided k.nurl) (empty_decided k.burl)) (empty_decided k.body))
whole_by k false false = (λ e. absurd (false≢true e), λ e. absurd (no_texts e))
  where
    no_texts : None ≡ Some k → ⊥
    no_texts e = cc

whole_decided : (offers : List Offer) (k : Kept) → Decides (stays_whole offers k) (stays offers k ≡ Some k)
whole_decided offers k = whole_by k (is_winners offers k) (may_be_told k)

all_stay : (f : Kept → Option Kept) (kept : List Kept) → All (λ k. f k ≡ Some k) kept → filter_map f kept ≡ kept
all_stay f [] all = refl
all_stay f (k ∷ ks) all =
    let P : Kept → Type 0 = λ l. f l ≡ Some l in
    ap (λ (o : Option Kept). cons_option o (filter_map f ks)) (All-head P k ks all)
    ∙ ap (λ (t : List Kept). k ∷ t) (all_stay f ks (All-tail P k ks all))

fewer_one : (o : Option Kept) (rest : List Kept) (n : ℕ) → length rest ≤ n → length (cons_option o rest) ≤ n + 1
fewer_one None rest n few = omega arith
fewer_one (Some k) rest n few = omega arith

fewer : (f : Kept → Option Kept) (kept : List Kept) → length (filter_map f kept) ≤ length kept
fewer f [] = omega arith
fewer f (k ∷ ks) =
    let one : length (cons_option (f k) (filter_map f ks)) ≤ length ks + 1 = fewer_one (f k) (filter_map f ks) (length ks) (fewer f ks) in
    omega arith

first_stays : (k : Kept) (o : Option Kept) (rest ks : List Kept) → length rest ≤ length ks → cons_option o rest ≡ k ∷ ks → (o ≡ Some k) × (rest ≡ ks)
first_stays k None rest ks few e = absurd (omega (arith, ap (λ (t : List Kept). length t) e, few))
first_stays k (Some l) rest ks few e = (let same : l ≡ k = cc in ap Some same, cc)

each_stays : (f : Kept → Option Kept) (kept : List Kept) → filter_map f kept ≡ kept → All (λ k. f k ≡ Some k) kept
each_stays f [] e = All-nil (λ (k : Kept). f k ≡ Some k)
each_stays f (k ∷ ks) e =
    let both = first_stays k (f k) (filter_map f ks) ks (fewer f ks) e in
    All-cons (λ (l : Kept). f l ≡ Some l) k ks both.0 (each_stays f ks both.1)

kept_decided : (offers : List Offer) (kept : List Kept) → Decides (list_all (stays_whole offers) kept) (settled_kept offers kept ≡ kept)
kept_decided offers kept =
    let P : Kept → Type 0 = λ k. stays offers k ≡ Some k in
    Decides-like (list_all (stays_whole offers) kept) (all_stay (stays offers) kept) (each_stays (stays offers) kept)
    (Decides-by_and (stays_whole offers) P (list_all (stays_whole offers)) (whole_decided offers) refl (λ _ _. refl) kept)

pub kept_told : (offers os : List Offer) (kept ks : List Kept) (r : Bool) → os ≡ offers → ks ≡ kept → r ≡ list_all (stays_whole os) ks → Decides r (settled_kept offers kept ≡ kept)
kept_told offers os kept ks r same equal is =
    Decides-at r (list_all (stays_whole offers) kept)
    (is ∙ (ap (λ (xs : List Offer). list_all (stays_whole xs) ks) same ∙ ap (list_all (stays_whole offers)) equal))
    (kept_decided offers kept)

-- offers: read as undecided, they are what a choice wants
refusal_undecided : (r : ℕ) → IsRefusal r → is_decided r ≡ false
refusal_undecided r (inl e) = ap is_decided e
refusal_undecided r (inr (inl e)) = ap is_decided e
refusal_undecided r (inr (inr (inl e))) = ap is_decided e
refusal_undecided r (inr (inr (inr (inl e)))) = ap is_decided e
refusal_undecided r (inr (inr (inr (inr (inl e))))) = ap is_decided e
refusal_undecided r (inr (inr (inr (inr (inr (inl e)))))) = ap is_decided e
refusal_undecided r (inr (inr (inr (inr (inr (inr e)))))) = ap is_decided e

abbrev again_by : Bool → Offer → Offer
again_by b o = cond b (with_reason o ADMITTED) o

priced_by : (campaigns imps : ℕ) (o : Offer) (b : Bool) → is_decided o.reason ≡ b → IsOffer campaigns imps o → ((again_by b o).reason ≡ AWARDED) ⊎ ((again_by b o).reason ≡ ADMITTED) → IsPriced campaigns (again_by b o)
priced_by campaigns imps o true is (inl w) marked = record { campaign = w.campaign; positive = w.positive; within = w.within }
priced_by campaigns imps o false is (inl w) marked = record { campaign = w.campaign; positive = w.positive; within = w.within }
priced_by campaigns imps o true is (inr w) marked = absurd (false≢true (sym (refusal_undecided o.reason w.reason) ∙ is))
priced_by campaigns imps o false is (inr w) (inl awarded) = absurd (refusal_not_awarded o.reason w.reason awarded)
priced_by campaigns imps o false is (inr w) (inr admitted) = absurd (refusal_other o.reason w.reason admitted)

imp_by : (campaigns imps : ℕ) (o : Offer) (b : Bool) → is_decided o.reason ≡ b → IsOffer campaigns imps o → (again_by b o).reason ≡ ADMITTED → (again_by b o).imp < imps
imp_by campaigns imps o true is (inl w) admitted = w.imp
imp_by campaigns imps o false is (inl w) admitted = w.imp
imp_by campaigns imps o true is (inr w) admitted = absurd (false≢true (sym (refusal_undecided o.reason w.reason) ∙ is))
imp_by campaigns imps o false is (inr w) admitted = absurd (refusal_other o.reason w.reason admitted)

unawarded_by : (o : Offer) (b : Bool) → is_decided o.reason ≡ b → (again_by b o).reason ≢ AWARDED
unawarded_by o true is = λ awarded. omega arith
unawarded_by o false is = eqb-false o.reason AWARDED (or_parts (eqb o.reason AWARDED) (eqb o.reason LOST_TO_HIGHER || eqb o.reason OVER_BUDGET) is).0

pub again_offers : (campaigns imps : ℕ) (offers again : List Offer) → again ≡ map admitted_again offers → length offers ≤ 1024 → All (IsOffer campaigns imps) offers → AreOffers campaigns again
again_offers campaigns imps offers again is few all =
    let P : Offer → Type 0 = λ o. (o.reason ≡ AWARDED) ⊎ (o.reason ≡ ADMITTED) → IsPriced campaigns o in
    let each : All (λ o. P (admitted_again o)) offers = All-weaker (IsOffer campaigns imps) (λ o. P (admitted_again o)) (λ o h. priced_by campaigns imps o (is_decided o.reason) refl h) offers all in
    subst (λ (os : List Offer). AreOffers campaigns os) (sym is) (record {
      few = omega (arith, length-map offers admitted_again);
      priced = All-map P admitted_again offers each;
    })

pub again_unsettled : (campaigns imps : ℕ) (offers again : List Offer) → again ≡ map admitted_again offers → All (IsOffer campaigns imps) offers → IsUnsettled imps again
again_unsettled campaigns imps offers again is all =
    let P : Offer → Type 0 = λ o. (o.reason ≢ AWARDED) × (o.reason ≡ ADMITTED → o.imp < imps) in
    let each : All (λ o. P (admitted_again o)) offers =
    All-weaker (IsOffer campaigns imps) (λ o. P (admitted_again o)) (λ o h. (unawarded_by o (is_decided o.reason) refl, imp_by campaigns imps o (is_decided o.reason) refl h)) offers all in
    subst (λ (os : List Offer). IsUnsettled imps os) (sym is) (All-map P admitted_again offers each)

-- settled again, they are as before where their reasons are
reason_back : (o : Offer) (b : Bool) → with_reason (again_by b o) o.reason ≡ o
reason_back o true = refl
reason_back o false = refl

pub as_before : (budgets : List Units) (before : Standing) (offers again given : List Offer) → again ≡ map admitted_again offers → given ≡ settled_offers budgets before again
    → ((k : ℕ) (d : Offer) → k < length given → (get_or given k d).reason ≡ (get_or offers k d).reason) → settled_offers budgets before (map admitted_again offers) ≡ offers
as_before budgets before offers again given is settles same =
    let u : List Offer = map admitted_again offers in
    let s : List Offer = settled_offers budgets before u in
    let all : given ≡ s = settles ∙ ap (settled_offers budgets before) is in
    let many : length u ≡ length offers = length-map offers admitted_again in
    let long : length s ≡ length offers = length-settled budgets before u ∙ many in
    same_lists s offers long (λ k d below.
    let within : k < length offers = omega arith in
    let inside : k < length u = omega arith in
    let o : Offer = get_or offers k d in
    let here : get_or u k d ≡ admitted_again o = get_or-map admitted_again offers k d d within in
    let r : ℕ = reason_at budgets before u k (get_or u k d) in
    let item : get_or s k d ≡ with_reason (admitted_again o) r = settled_at budgets before u k d inside ∙ ap (λ (x : Offer). with_reason x r) here in
    let counted : k < length given = omega (arith, ap (λ (os : List Offer). length os) all) in
    let reason : r ≡ o.reason =
    sym (ap (λ (x : Offer). x.reason) item) ∙ (ap (λ (os : List Offer). (get_or os k d).reason) (sym all) ∙ same k d counted) in
    item ∙ (ap (with_reason (admitted_again o)) reason ∙ reason_back o (is_decided o.reason)))

pub same_reasons : (budgets : List Units) (before : Standing) (offers again given : List Offer) → again ≡ map admitted_again offers → given ≡ settled_offers budgets before again
    → settled_offers budgets before (map admitted_again offers) ≡ offers → (k : ℕ) (d : Offer) → k < length given → (get_or given k d).reason ≡ (get_or offers k d).reason
same_reasons budgets before offers again given is settles same k d below =
    ap (λ (os : List Offer). (get_or os k d).reason) (settles ∙ (ap (settled_offers budgets before) is ∙ same))

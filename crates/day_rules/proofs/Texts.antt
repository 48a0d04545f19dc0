-- The kept texts that stay, how many and how long they are.
use Rattle.std.proofs.Common.{◌≡◌, ◌⊎◌, ℕ, zero, suc, ◌+◌, ◌<◌, ◌≤◌, List, [], ◌∷◌, ◌++◌, length, get_or, Bool, true, false, cond, not, leb, eqb, refl, sym, ap, ◌∙◌, subst, inl, inr, arith, Option, Some, None, slice_get, is_some}
use Rattle.std.specs.List.{All, AllPairs, Any, cons_option}
use Rattle.std.specs.Option.{option_map_or}
use Rattle.std.proofs.lemmas.Bool.{and_parts, cases_lt, eqb-true, leb-true}
use Rattle.std.proofs.lemmas.List.{get_or_append_left, get_or_default, get_or_push, length_push}
use Rattle.std.proofs.lemmas.Option.{slice_get_within}
use Rattle.std.proofs.lemmas.List.Elements.{All-append, All-cons, All-from_get_or, All-get_or, All-nil}
use Rattle.adx_units.specs.declared.offer.Offer.{Offer}
use Rattle.allocator_core.specs.declared.reason.TheConstants.{AWARDED}
use Rattle.day_rules.specs.declared.ask.Ask.{Ask}
use Rattle.day_rules.specs.declared.ask.Kept.{Kept}
use Rattle.day_rules.specs.declared.entry.Entry.{Entry}
use Rattle.day_rules.specs.declared.limits.TheConstants.{MAX_KEPT}
use Rattle.day_rules.specs.Asks.{AreKeptTexts, AreTextsOf, IsWellFormed, is_empty, is_winners, may_be_told, settled, settled_kept, stays, texts_of_loss}
use Rattle.day_rules.specs.Books.{text_size}
use Rattle.day_rules.specs.Terms.{Terms}
use Rattle.day_rules.specs.KeptTexts.{IsShort}
use Rattle.day_rules.specs.OfferTests.{trimmed}

-- the texts that stay are those of the bids that have any, each trimmed
pub stays_one : (offers : List Offer) (k : Kept) (wins told : Bool) → is_winners offers k ≡ wins → may_be_told k ≡ told → (rest : List Kept)
    → cons_option (stays offers k) rest ≡ cond (is_some (stays offers k)) (trimmed offers k ∷ rest) rest
stays_one offers k true told w t rest = rw w refl
stays_one offers k false true w t rest = rw (w, t) refl
stays_one offers k false false w t rest = rw (w, t) refl

-- each is a winner's, or short
abbrev IsWinnersOrShort : List Offer → Kept → Type 0
IsWinnersOrShort offers k = (is_winners offers k ≡ true) ⊎ IsShort k

shorter : (k : Kept) → text_size (texts_of_loss k) ≤ text_size k
shorter k = omega arith

told_short : (k : Kept) → may_be_told k ≡ true → IsShort (texts_of_loss k)
told_short k h =
    let fits : text_size k ≤ MAX_KEPT = leb-true (text_size k) MAX_KEPT (and_parts (not (is_empty k.lurl)) (leb (text_size k) MAX_KEPT) h).1 in
    at_most (text_size (texts_of_loss k)) (text_size k) MAX_KEPT (shorter k) fits
  where
    at_most : (a b c : ℕ) → a ≤ b → b ≤ c → a ≤ c
    at_most a b c p q = omega arith

one_or_short : (offers : List Offer) (k : Kept) (rest : List Kept) (wins told : Bool) → is_winners offers k ≡ wins → may_be_told k ≡ told → All (IsWinnersOrShort offers) rest → All (IsWinnersOrShort offers) (cons_option (stays offers k) rest)
one_or_short offers k rest true told w t all = rw w (All-cons (IsWinnersOrShort offers) k rest (inl w) all)
one_or_short offers k rest false true w t all = rw (w, t) (All-cons (IsWinnersOrShort offers) (texts_of_loss k) rest (inr (told_short k t)) all)
one_or_short offers k rest false false w t all = rw (w, t) all

winners_or_short : (offers : List Offer) (kept : List Kept) → All (IsWinnersOrShort offers) (settled_kept offers kept)
winners_or_short offers [] = All-nil (IsWinnersOrShort offers)
winners_or_short offers (k ∷ ks) = one_or_short offers k (settled_kept offers ks) (is_winners offers k) (may_be_told k) refl refl (winners_or_short offers ks)

abbrev pub no_texts : Kept
no_texts = record { bid = 0; seat = []; bidid = []; adid = []; nurl = []; burl = []; lurl = []; body = [] }

-- the texts of a winner are short, since those that it needs are
awarded_at : (offers : List Offer) (k : Kept) (o : Option Offer) → slice_get offers k.bid ≡ o → option_map_or (λ o. eqb o.reason AWARDED) o false ≡ true → (x : Offer) × (slice_get offers k.bid ≡ Some x) × (x.reason ≡ AWARDED)
awarded_at offers k None at h = cc
awarded_at offers k (Some x) at h = (x, at, eqb-true x.reason AWARDED h)

same_text : (kept : List Kept) (i : ℕ) → AllPairs (λ k l. k.bid < l.bid) kept → i < length kept → Any (AreTextsOf (get_or kept i no_texts).bid) kept → IsShort (get_or kept i no_texts)
same_text kept i ordered within there =
    let j : ℕ = there.0 in
    let l : Kept = there.1 in
    elim (cases_lt i j) [
      | inl less ↦
          let before : (get_or kept i l).bid < (get_or kept j l).bid = ordered i j l less there.2 in
          absurd (omega (arith, before, ap (λ (k : Kept). k.bid) there.3, there.4.0, ap (λ (k : Kept). k.bid) (get_or_default kept i l no_texts within)))
      | inr more ↦ elim (cases_lt j i) [
        | inl less ↦
            let before : (get_or kept j l).bid < (get_or kept i l).bid = ordered j i l less within in
            absurd (omega (arith, before, ap (λ (k : Kept). k.bid) there.3, there.4.0, ap (λ (k : Kept). k.bid) (get_or_default kept i l no_texts within)))
        | inr less ↦
            let same : j ≡ i = omega arith in
            let is : get_or kept i no_texts ≡ l = get_or_default kept i no_texts l within ∙ (ap (λ (m : ℕ). get_or kept m l) (sym same) ∙ there.3) in
            subst IsShort (sym is) there.4.1
      ]
    ]

pub all_short : (offers : List Offer) (kept old : List Kept) → kept ≡ settled_kept offers old → AreKeptTexts offers kept → All IsShort kept
all_short offers kept old is are =
    All-from_get_or IsShort kept no_texts (λ i within.
    let each : All (IsWinnersOrShort offers) kept = subst (All (IsWinnersOrShort offers)) (sym is) (winners_or_short offers old) in
    let here : IsWinnersOrShort offers (get_or kept i no_texts) = All-get_or (IsWinnersOrShort offers) kept i no_texts within each in
    elim here [
      | inl wins ↦
          let k : Kept = get_or kept i no_texts in
          let found = awarded_at offers k (slice_get offers k.bid) refl wins in
          same_text kept i are.ordered within (are.needed k.bid found.0 found.1 (inl found.2))
      | inr short ↦ short
    ])

-- there is at most one text for each offer
rising : (kept : List Kept) (d : Kept) (i : ℕ) → AllPairs (λ k l. k.bid < l.bid) kept → i < length kept → i ≤ (get_or kept i d).bid
rising kept d zero ordered within = omega arith
rising kept d (suc i) ordered within =
    let before : (get_or kept i d).bid < (get_or kept (suc i) d).bid = ordered i (suc i) d (omega arith) within in
    let rest : i ≤ (get_or kept i d).bid = rising kept d i ordered (omega arith) in
    omega arith

pub few_texts : (offers : List Offer) (kept : List Kept) → AreKeptTexts offers kept → length kept ≤ length offers
few_texts offers [] are = omega arith
few_texts offers (k ∷ ks) are =
    let last : ℕ = length ks in
    let low : last ≤ (get_or (k ∷ ks) last k).bid = rising (k ∷ ks) k last are.ordered (omega arith) in
    let high : (get_or (k ∷ ks) last k).bid < length offers = All-get_or (λ (l : Kept). l.bid < length offers) (k ∷ ks) last k (omega arith) are.placed in
    omega arith

-- the texts of a settled ask
pub settled_short : (campaigns : ℕ) (terms : Terms) (history : List Entry) (old a : Ask) → settled terms history old ≡ a → IsWellFormed campaigns a → All IsShort a.kept
settled_short campaigns terms history old a is formed =
    all_short a.offers a.kept old.kept (sym (ap (λ (b : Ask). b.kept) is) ∙ ap (λ (os : List Offer). settled_kept os old.kept) (ap (λ (b : Ask). b.offers) is)) formed.kept

-- texts of each bid, in their order, are those that a day wants
pub each_text : (offers : List Offer) (kept : List Kept) (n : ℕ) → length offers ≡ n → length kept ≡ n → ((k : ℕ) (d : Kept) → k < n → (get_or kept k d).bid ≡ k) → All IsShort kept → AreKeptTexts offers kept
each_text offers kept n many long bids short = record {
  ordered = λ i j d before below.
      let one : (get_or kept i d).bid ≡ i = bids i d (omega arith) in
      let two : (get_or kept j d).bid ≡ j = bids j d (omega arith) in
      omega arith;
  placed = All-from_get_or (λ (k : Kept). k.bid < length offers) kept no_texts (λ i within.
      let here : (get_or kept i no_texts).bid ≡ i = bids i no_texts (omega arith) in
      omega arith);
  needed = λ place o at needs.
      let within : place < length kept = omega (arith, slice_get_within offers place o at) in
      let k : Kept = get_or kept place no_texts in
      (place, k, within, get_or_default kept place k no_texts within, (bids place no_texts (omega arith), All-get_or IsShort kept place no_texts within short));
}

-- one more text
pub one_more_text : (kept : List Kept) (n : ℕ) (k : Kept) → length kept ≡ n → ((i : ℕ) (d : Kept) → i < n → (get_or kept i d).bid ≡ i) → All IsShort kept → k.bid ≡ n → IsShort k
    → (length (kept ++ k ∷ []) ≡ n + 1) × ((i : ℕ) (d : Kept) → i < n + 1 → (get_or (kept ++ k ∷ []) i d).bid ≡ i) × All IsShort (kept ++ k ∷ [])
one_more_text kept n k long bids short is fits = (
  omega (arith, length_push kept k),
  (λ i d below. elim (cases_lt i n) [
    | inl less ↦ ap (λ (l : Kept). l.bid) (get_or_append_left kept (k ∷ []) d i (omega arith)) ∙ bids i d less
    | inr more ↦
        let last : i ≡ n = omega arith in
        ap (λ (l : Kept). l.bid) (get_or_push kept k d i (long ∙ sym last)) ∙ (is ∙ sym last)
  ]),
  All-append IsShort kept (k ∷ []) short (All-cons IsShort k [] fits (All-nil IsShort)),
)

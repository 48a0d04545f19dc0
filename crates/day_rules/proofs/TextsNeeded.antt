-- The walk over the bids of an ask beside its kept texts.
use Rattle.std.proofs.Common.{◌≡◌, ◌≢◌, ℕ, ◌+◌, ◌<◌, ◌≤◌, List, Bool, true, false, not, ◌&&◌, leb, eqb, length, get_or, inl, inr, refl, sym, ap, ◌∙◌, subst, arith, Option, Some, None, slice_get}
use Rattle.std.specs.List.{AllPairs, Any}
use Rattle.std.proofs.lemmas.Bool.{and_cases, and_parts, cases_lt, eqb-false, eqb-true, false≢true, leb-false, leb-true, not-false, not-true}
use Rattle.std.proofs.lemmas.List.{get_or_default}
use Rattle.std.proofs.lemmas.List.Elements.{All-from_get_or, All-get_or}
use Rattle.std.proofs.lemmas.Option.{get_or_from_slice_get, slice_get-get_or, slice_get_within}
use Rattle.adx_units.specs.declared.offer.Offer.{Offer}
use Rattle.day_rules.specs.declared.ask.Kept.{Kept}
use Rattle.day_rules.specs.declared.limits.TheConstants.{MAX_KEPT}
use Rattle.day_rules.specs.Asks.{AreKeptTexts, AreTextsOf, NeedsTexts}
use Rattle.day_rules.specs.Books.{text_size}
use Rattle.day_rules.specs.OfferTests.{are_of, are_short_of, needs_texts}
use Rattle.day_rules.proofs.Texts.{no_texts}
use Rattle.day_rules.proofs.AskTests.{needs_decided}

-- the texts before `next` are of bids below `place`, in order, with those that these bids need; where all are
-- in order, the others are of bids from `place` on
pub record AreKeptBelow (offers : List Offer) (kept : List Kept) (place next : ℕ) : Type 0 where
  pub within : next ≤ length kept
  pub below : (i : ℕ) (d : Kept) → i < next → (get_or kept i d).bid < place
  pub ordered : (i j : ℕ) (d : Kept) → i < j → j < next → (get_or kept i d).bid < (get_or kept j d).bid
  pub needed : (q : ℕ) (o : Offer) → q < place → slice_get offers q ≡ Some o → NeedsTexts o → Any (AreTextsOf q) kept
  pub rest : AllPairs (λ k l. k.bid < l.bid) kept → (i : ℕ) (d : Kept) → next ≤ i → i < length kept → place ≤ (get_or kept i d).bid

pub at_start : (offers : List Offer) (kept : List Kept) → AreKeptBelow offers kept 0 0
at_start offers kept = record {
  within = omega arith;
  below = λ i d less. absurd (omega arith);
  ordered = λ i j d before less. absurd (omega arith);
  needed = λ q o less found needs. absurd (omega arith);
  rest = λ pairs i d low under. omega arith;
}

taken : (offers : List Offer) (kept : List Kept) (place next : ℕ) → AreKeptBelow offers kept place next → next < length kept → (get_or kept next no_texts).bid ≡ place
    → ((o : Offer) → slice_get offers place ≡ Some o → NeedsTexts o → text_size (get_or kept next no_texts) ≤ MAX_KEPT) → AreKeptBelow offers kept (place + 1) (next + 1)
taken offers kept place next w inside bid short =
    let at : (d : Kept) → (get_or kept next d).bid ≡ place = λ d. ap (λ (k : Kept). k.bid) (get_or_default kept next d no_texts inside) ∙ bid in
    record {
      within = omega arith;
      below = λ i d less. elim (cases_lt i next) [
        | inl lower ↦ let here : (get_or kept i d).bid < place = w.below i d lower in omega arith
        | inr upper ↦
            let same : i ≡ next = omega arith in
            let here : (get_or kept i d).bid ≡ place = ap (λ (n : ℕ). (get_or kept n d).bid) same ∙ at d in
            omega arith
      ];
      ordered = λ i j d before less. elim (cases_lt j next) [
        | inl lower ↦ w.ordered i j d before lower
        | inr upper ↦
            let same : j ≡ next = omega arith in
            let last : (get_or kept j d).bid ≡ place = ap (λ (n : ℕ). (get_or kept n d).bid) same ∙ at d in
            let here : (get_or kept i d).bid < place = w.below i d (omega arith) in
            omega arith
      ];
      needed = λ q o less found needs. elim (cases_lt q place) [
        | inl lower ↦ w.needed q o lower found needs
        | inr upper ↦
            let same : q ≡ place = omega arith in
            let k : Kept = get_or kept next no_texts in
            let there : Any (AreTextsOf place) kept = (next, k, inside, get_or_default kept next k no_texts inside, (bid, short o (ap (slice_get offers) (sym same) ∙ found) needs)) in
            subst (λ (n : ℕ). Any (AreTextsOf n) kept) (sym same) there
      ];
      rest = λ pairs i d low under.
          let one : (get_or kept next d).bid < (get_or kept i d).bid = pairs next i d (omega arith) under in
          let two : (get_or kept next d).bid ≡ place = at d in
          omega arith;
    }

passed : (offers : List Offer) (kept : List Kept) (place next : ℕ) → AreKeptBelow offers kept place next → ((d : Kept) → next < length kept → (get_or kept next d).bid ≢ place)
    → ((o : Offer) → slice_get offers place ≡ Some o → ¬ (NeedsTexts o)) → AreKeptBelow offers kept (place + 1) next
passed offers kept place next w other free = record {
  within = w.within;
  below = λ i d less. let here : (get_or kept i d).bid < place = w.below i d less in omega arith;
  ordered = w.ordered;
  needed = λ q o less found needs. elim (cases_lt q place) [
    | inl lower ↦ w.needed q o lower found needs
    | inr upper ↦ let same : q ≡ place = omega arith in absurd (free o (ap (slice_get offers) (sym same) ∙ found) needs)
  ];
  rest = λ pairs i d low under. elim (cases_lt next i) [
    | inl lower ↦
        let one : (get_or kept next d).bid < (get_or kept i d).bid = pairs next i d lower under in
        let two : place ≤ (get_or kept next d).bid = w.rest pairs next d (omega arith) (omega arith) in
        omega arith
    | inr upper ↦
        let same : next ≡ i = omega arith in
        let two : place ≤ (get_or kept i d).bid = w.rest pairs i d low under in
        let three : (get_or kept i d).bid ≢ place = λ e. other d (omega arith) (ap (λ (n : ℕ). (get_or kept n d).bid) same ∙ e) in
        omega arith
  ];
}

missing : (offers : List Offer) (kept : List Kept) (place next : ℕ) (o : Offer) → AreKeptBelow offers kept place next → slice_get offers place ≡ Some o → NeedsTexts o
    → (next < length kept → (get_or kept next no_texts).bid ≡ place → MAX_KEPT < text_size (get_or kept next no_texts)) → ¬ (AreKeptTexts offers kept)
missing offers kept place next o w found needs long are =
    let there : Any (AreTextsOf place) kept = are.needed place o found needs in
    let j : ℕ = there.0 in
    let k : Kept = there.1 in
    let inside : j < length kept = there.2 in
    let is : get_or kept j k ≡ k = there.3 in
    let bid : (get_or kept j k).bid ≡ place = ap (λ (l : Kept). l.bid) is ∙ there.4.0 in
    elim (cases_lt j next) [
      | inl lower ↦ let here : (get_or kept j k).bid < place = w.below j k lower in absurd (omega arith)
      | inr upper ↦ elim (cases_lt next j) [
        | inl higher ↦
            let one : (get_or kept next k).bid < (get_or kept j k).bid = are.ordered next j k higher inside in
            let two : place ≤ (get_or kept next k).bid = w.rest are.ordered next k (omega arith) (omega arith) in
            absurd (omega arith)
        | inr lower ↦
            let same : next ≡ j = omega arith in
            let here : next < length kept = omega arith in
            let k_is : get_or kept next no_texts ≡ k = get_or_default kept next no_texts k here ∙ (ap (λ (n : ℕ). get_or kept n k) same ∙ is) in
            let past : MAX_KEPT < text_size (get_or kept next no_texts) = long here (ap (λ (l : Kept). l.bid) k_is ∙ there.4.0) in
            too_long (text_size (get_or kept next no_texts)) (text_size k) past (ap text_size k_is) there.4.1
      ]
    ]
  where
    too_long : (a b : ℕ) → MAX_KEPT < a → a ≡ b → b ≤ MAX_KEPT → ⊥
    too_long a b past same short = omega arith

pub all_kept : (offers : List Offer) (kept : List Kept) (place next : ℕ) → AreKeptBelow offers kept place next → length offers ≤ place → place ≤ length offers → next ≡ length kept → AreKeptTexts offers kept
all_kept offers kept place next w past upto all = record {
  ordered = λ i j d before below. w.ordered i j d before (omega arith);
  placed = All-from_get_or (λ (k : Kept). k.bid < length offers) kept no_texts (λ i within.
      let here : (get_or kept i no_texts).bid < place = w.below i no_texts (omega arith) in
      omega arith);
  needed = λ q o found needs.
      let inside : q < length offers = slice_get_within offers q o found in
      w.needed q o (omega arith) found needs;
}

pub too_many : (offers : List Offer) (kept : List Kept) (place next : ℕ) → AreKeptBelow offers kept place next → length offers ≤ place → next ≢ length kept → ¬ (AreKeptTexts offers kept)
too_many offers kept place next w past some are =
    let within : next ≤ length kept = w.within in
    let inside : next < length kept = omega arith in
    let low : place ≤ (get_or kept next no_texts).bid = w.rest are.ordered next no_texts (omega arith) inside in
    let high : (get_or kept next no_texts).bid < length offers = All-get_or (λ (k : Kept). k.bid < length offers) kept next no_texts inside are.placed in
    omega arith

-- what the tests of the next texts say
of_found : (kept : List Kept) (next place : ℕ) (o : Option Kept) → slice_get kept next ≡ o → are_of place o ≡ true → (next < length kept) × ((get_or kept next no_texts).bid ≡ place)
of_found kept next place None at h = absurd (false≢true h)
of_found kept next place (Some k) at h = (
  slice_get_within kept next k at,
  ap (λ (l : Kept). l.bid) (get_or_from_slice_get kept next k no_texts at) ∙ eqb-true k.bid place h,
)

of_other : (kept : List Kept) (next place : ℕ) (o : Option Kept) → slice_get kept next ≡ o → are_of place o ≡ false → (d : Kept) → next < length kept → (get_or kept next d).bid ≢ place
of_other kept next place None at h d within = absurd (no_item (sym at ∙ slice_get-get_or kept next d within))
  where
    no_item : None ≡ Some (get_or kept next d) → ⊥
    no_item e = cc
of_other kept next place (Some k) at h d within = λ e.
    eqb-false k.bid place h (sym (ap (λ (l : Kept). l.bid) (get_or_from_slice_get kept next k d at)) ∙ e)

short_found : (kept : List Kept) (next place : ℕ) (o : Option Kept) → slice_get kept next ≡ o → are_short_of place o ≡ true → (are_of place o ≡ true) × (text_size (get_or kept next no_texts) ≤ MAX_KEPT)
short_found kept next place None at h = absurd (false≢true h)
short_found kept next place (Some k) at h =
    let both = and_parts (eqb k.bid place) (leb (text_size k) MAX_KEPT) h in
    (both.0, subst (λ (l : Kept). text_size l ≤ MAX_KEPT) (sym (get_or_from_slice_get kept next k no_texts at)) (leb-true (text_size k) MAX_KEPT both.1))

long_found : (kept : List Kept) (next place : ℕ) (o : Option Kept) → slice_get kept next ≡ o → are_short_of place o ≡ false → next < length kept → (get_or kept next no_texts).bid ≡ place → MAX_KEPT < text_size (get_or kept next no_texts)
long_found kept next place None at h within bid = absurd (no_item (sym at ∙ slice_get-get_or kept next no_texts within))
  where
    no_item : None ≡ Some (get_or kept next no_texts) → ⊥
    no_item e = cc
long_found kept next place (Some k) at h within bid =
    let is : get_or kept next no_texts ≡ k = get_or_from_slice_get kept next k no_texts at in
    subst (λ (l : Kept). MAX_KEPT < text_size l) (sym is)
    (elim (and_cases (eqb k.bid place) (leb (text_size k) MAX_KEPT) h) [
      | inl other ↦ absurd (eqb-false k.bid place other (sym (ap (λ (l : Kept). l.bid) is) ∙ bid))
      | inr long ↦ leb-false (text_size k) MAX_KEPT long
    ])

-- a bid lacks no texts: it needs none, or they come next
abbrev lacks : Offer → ℕ → Option Kept → Bool
lacks o place found = needs_texts o && not (are_short_of place found)

short_where_needed : (o p : Offer) (offers : List Offer) (place : ℕ) (found : Option Kept) → slice_get offers place ≡ Some o → lacks o place found ≡ false → slice_get offers place ≡ Some p → NeedsTexts p → are_short_of place found ≡ true
short_where_needed o p offers place found at none there needs =
    let same : p ≡ o = one_item (sym there ∙ at) in
    elim (and_cases (needs_texts o) (not (are_short_of place found)) none) [
      | inl free ↦ absurd (false≢true (sym free ∙ (needs_decided o).1 (subst NeedsTexts same needs)))
      | inr short ↦ not-false (are_short_of place found) short
    ]
  where
    one_item : Some p ≡ Some o → p ≡ o
    one_item e = cc

pub one_taken : (offers : List Offer) (kept : List Kept) (place next : ℕ) (d : Offer) (lacking here : Bool) → AreKeptBelow offers kept place next → place < length offers
    → lacking ≡ lacks (get_or offers place d) place (slice_get kept next) → lacking ≡ false → here ≡ are_of place (slice_get kept next) → here ≡ true → AreKeptBelow offers kept (place + 1) (next + 1)
one_taken offers kept place next d lacking here w within is none at comes =
    let o : Offer = get_or offers place d in
    let found = of_found kept next place (slice_get kept next) refl (sym at ∙ comes) in
    taken offers kept place next w found.0 found.1 (λ p there needs.
    (short_found kept next place (slice_get kept next) refl (short_where_needed o p offers place (slice_get kept next) (slice_get-get_or offers place d within) (sym is ∙ none) there needs)).1)

pub one_passed : (offers : List Offer) (kept : List Kept) (place next : ℕ) (d : Offer) (lacking here : Bool) → AreKeptBelow offers kept place next → place < length offers
    → lacking ≡ lacks (get_or offers place d) place (slice_get kept next) → lacking ≡ false → here ≡ are_of place (slice_get kept next) → here ≡ false → AreKeptBelow offers kept (place + 1) next
one_passed offers kept place next d lacking here w within is none at stays =
    let o : Offer = get_or offers place d in
    let other : are_of place (slice_get kept next) ≡ false = sym at ∙ stays in
    passed offers kept place next w (of_other kept next place (slice_get kept next) refl other) (λ p there needs.
    false≢true (sym other ∙ (short_found kept next place (slice_get kept next) refl (short_where_needed o p offers place (slice_get kept next) (slice_get-get_or offers place d within) (sym is ∙ none) there needs)).0))

pub one_missing : (offers : List Offer) (kept : List Kept) (place next : ℕ) (d : Offer) (lacking : Bool) → AreKeptBelow offers kept place next → place < length offers
    → lacking ≡ lacks (get_or offers place d) place (slice_get kept next) → lacking ≡ true → ¬ (AreKeptTexts offers kept)
one_missing offers kept place next d lacking w within is some =
    let o : Offer = get_or offers place d in
    let both = and_parts (needs_texts o) (not (are_short_of place (slice_get kept next))) (sym is ∙ some) in
    missing offers kept place next o w (slice_get-get_or offers place d within) ((needs_decided o).0 both.0)
    (long_found kept next place (slice_get kept next) refl (not-true (are_short_of place (slice_get kept next)) both.1))

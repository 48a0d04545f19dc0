-- What the choice over the offers of an ask leaves within the budgets, and what its awards take.
use Rattle.std.proofs.Common.{◌≡◌, ◌≢◌, ℕ, zero, suc, ◌+◌, ◌<◌, ◌≤◌, List, map, length, filter, get_or, Bool, true, false, cond, ◌&&◌, eqb, refl, sym, ap, ◌∙◌, subst, inl, inr, arith, Option, Some, None}
use Rattle.std.specs.List.{All, sum_by, enumerate_from, range_with_len}
use Rattle.std.proofs.lemmas.List.FromFn.{sum_by-map-range_with_len_more}
use Rattle.std.proofs.lemmas.Bool.{cases_eq, cond-true, cond-false, and_parts, and_left, and_right, and_from, eqb-true, eq-eqb, ne_eqb, leb-true}
use Rattle.adx_units.specs.declared.units.Units.{Units}
use Rattle.adx_units.specs.declared.offer.Offer.{Offer}
use Rattle.adx_units.specs.declared.offer.TheConstants.{ADMITTED}
use Rattle.allocator_core.specs.declared.best.Best.{Best}
use Rattle.allocator_core.specs.Choice.{Standing, budget_at, fits, weight_of, competes, chosen_at, no_offer, taken_by, standing_at, is_place, decided, reason_at, settled_offers}
use Rattle.allocator_core.proofs.Lists.{greatest_found, Alike, BestIs, best_end, greatest_alike, sum_by-map, sum_by-filter, sum_by-enumerate, sum_by-none, sum_by-one}

-- each campaign is within its budget
abbrev pub StandsWithin : List Units → Standing → Type 0
StandsWithin budgets standing = (campaign : ℕ) → standing campaign ≤ budget_at budgets campaign

pub chosen_found : (budgets : List Units) (standing : Standing) (offers : List Offer) (imp place : ℕ) (d : Offer) → chosen_at budgets standing offers imp ≡ Some place → (place < length offers) × (competes budgets standing imp (get_or offers place d) ≡ true)
unfolding chosen_at
chosen_found budgets standing offers imp place d h =
    greatest_found (competes budgets standing imp) (weight_of budgets standing) offers place d h

pub chosen_best : (budgets : List Units) (standing : Standing) (offers : List Offer) (imp i : ℕ) (best : Best) → length offers ≡ i → BestIs (competes budgets standing imp) (weight_of budgets standing) offers i best → best.place ≡ chosen_at budgets standing offers imp
unfolding chosen_at
chosen_best budgets standing offers imp i best end so_far =
    sym (best_end (competes budgets standing imp) (weight_of budgets standing) offers i best.place best.weight no_offer end so_far)

-- lists whose offers for the impression are the same have the same choice
pub chosen_alike : (budgets : List Units) (standing : Standing) (imp : ℕ) (offers others : List Offer) → length offers ≡ length others → ((k : ℕ) (d : Offer) → k < length offers → Alike (competes budgets standing imp) (get_or offers k d) (get_or others k d)) → chosen_at budgets standing offers imp ≡ chosen_at budgets standing others imp
unfolding chosen_at
chosen_alike budgets standing imp offers others long alike =
    greatest_alike (competes budgets standing imp) (weight_of budgets standing) offers others no_offer long alike

pub record Competes (budgets : List Units) (standing : Standing) (imp : ℕ) (o : Offer) : Type 0 where
  pub imp_is : o.imp ≡ imp
  pub admitted : o.reason ≡ ADMITTED
  pub fits : standing o.campaign + o.charge.0 ≤ budget_at budgets o.campaign

pub competes_means : (budgets : List Units) (standing : Standing) (imp : ℕ) (o : Offer) → competes budgets standing imp o ≡ true → Competes budgets standing imp o
competes_means budgets standing imp o h =
    let outer = and_parts (eqb o.imp imp && eqb o.reason ADMITTED) (fits budgets standing o) h in
    let inner = and_parts (eqb o.imp imp) (eqb o.reason ADMITTED) outer.0 in
    record {
      imp_is = eqb-true o.imp imp inner.0;
      admitted = eqb-true o.reason ADMITTED inner.1;
      fits = leb-true (standing o.campaign + o.charge.0) (budget_at budgets o.campaign) outer.1;
    }

-- what an offer takes from a campaign
abbrev pub charge_for : ℕ → Offer → ℕ
charge_for campaign o = cond (eqb o.campaign campaign) o.charge.0 0

taken_fits : (budgets : List Units) (standing : Standing) (offers : List Offer) (imp campaign : ℕ) (chosen : Option ℕ) → StandsWithin budgets standing → chosen_at budgets standing offers imp ≡ chosen → standing campaign + taken_by offers chosen campaign ≤ budget_at budgets campaign
taken_fits budgets standing offers imp campaign None within e = let h = within campaign in omega arith
taken_fits budgets standing offers imp campaign (Some place) within e =
    let o : Offer = get_or offers place no_offer in
    let c = competes_means budgets standing imp o (chosen_found budgets standing offers imp place no_offer e).1 in
    elim (cases_eq o.campaign campaign) [
      | inl same ↦
          let taken : charge_for campaign o ≡ o.charge.0 = cond-true (eqb o.campaign campaign) o.charge.0 0 (eq-eqb o.campaign campaign same) in
          let f : standing o.campaign + o.charge.0 ≤ budget_at budgets o.campaign = c.fits in
          let g : standing campaign + o.charge.0 ≤ budget_at budgets campaign = subst (λ (k : ℕ). standing k + o.charge.0 ≤ budget_at budgets k) same f in
          omega arith
      | inr apart ↦
          let taken : charge_for campaign o ≡ 0 = cond-false (eqb o.campaign campaign) o.charge.0 0 (ne_eqb o.campaign campaign apart) in
          let h = within campaign in
          omega arith
    ]

pub standing_step : (budgets : List Units) (before : Standing) (offers : List Offer) (imp campaign : ℕ) → standing_at budgets before offers (suc imp) campaign ≡ standing_at budgets before offers imp campaign + taken_by offers (chosen_at budgets (standing_at budgets before offers imp) offers imp) campaign
unfolding standing_at
standing_step budgets before offers imp campaign = refl

pub standing_start : (budgets : List Units) (before : Standing) (offers : List Offer) → standing_at budgets before offers 0 ≡ before
unfolding standing_at
standing_start budgets before offers = refl

-- no choice passes a budget
pub standing_within : (budgets : List Units) (before : Standing) (offers : List Offer) (imp : ℕ) → StandsWithin budgets before → StandsWithin budgets (standing_at budgets before offers imp)
standing_within budgets before offers zero within = λ campaign. rw (standing_start budgets before offers) (within campaign)
standing_within budgets before offers (suc imp) within = λ campaign.
    let standing : Standing = standing_at budgets before offers imp in
    let fit = taken_fits budgets standing offers imp campaign (chosen_at budgets standing offers imp) (standing_within budgets before offers imp within) refl in
    rw (standing_step budgets before offers imp campaign) fit

-- what the choice for an impression takes from a campaign
abbrev pub taken_at : List Units → Standing → List Offer → ℕ → ℕ → ℕ
taken_at budgets before offers campaign imp =
    taken_by offers (chosen_at budgets (standing_at budgets before offers imp) offers imp) campaign

pub standing_sum : (budgets : List Units) (before : Standing) (offers : List Offer) (imps campaign : ℕ) → standing_at budgets before offers imps campaign ≡ before campaign + sum_by (taken_at budgets before offers campaign) (range_with_len 0 imps)
standing_sum budgets before offers zero campaign = let e = ap (λ (s : Standing). s campaign) (standing_start budgets before offers) in omega arith
standing_sum budgets before offers (suc imps) campaign =
    let f : ℕ → ℕ = taken_at budgets before offers campaign in
    let id : ℕ → ℕ = λ n. n in
    let more : sum_by id (map f (range_with_len 0 (imps + 1))) ≡ sum_by id (map f (range_with_len 0 imps)) + f imps =
    sum_by-map-range_with_len_more id f 0 imps imps (omega arith) in
    let now : sum_by id (map f (range_with_len 0 imps)) ≡ sum_by f (range_with_len 0 imps) = sum_by-map id f (range_with_len 0 imps) in
    let next : sum_by id (map f (range_with_len 0 (suc imps))) ≡ sum_by f (range_with_len 0 (suc imps)) = sum_by-map id f (range_with_len 0 (suc imps)) in
    let one : imps + 1 ≡ suc imps = omega arith in
    let same : sum_by id (map f (range_with_len 0 (imps + 1))) ≡ sum_by id (map f (range_with_len 0 (suc imps))) =
    ap (λ (n : ℕ). sum_by id (map f (range_with_len 0 n))) one in
    omega (arith, standing_step budgets before offers imps campaign, standing_sum budgets before offers imps campaign)

-- no offer of the list has a reason that only the day gives
abbrev pub IsUndecidedReason : ℕ → Type 0
IsUndecidedReason reason = (reason ≢ 0) × (reason ≢ 102) × (reason ≢ 1001)

decided_lost : (does_fit : Bool) → eqb (decided false does_fit) 0 ≡ false
decided_lost true = refl
decided_lost false = refl

pub reason_of_admitted : (budgets : List Units) (before : Standing) (offers : List Offer) (place : ℕ) (o : Offer) → o.reason ≡ ADMITTED → reason_at budgets before offers place o ≡ decided (is_place (chosen_at budgets (standing_at budgets before offers o.imp) offers o.imp) place) (fits budgets (standing_at budgets before offers o.imp) o)
reason_of_admitted budgets before offers place o h = cond-true (eqb o.reason ADMITTED) _ _ (eq-eqb o.reason ADMITTED h)

pub reason_of_refused : (budgets : List Units) (before : Standing) (offers : List Offer) (place : ℕ) (o : Offer) → o.reason ≢ ADMITTED → reason_at budgets before offers place o ≡ o.reason
reason_of_refused budgets before offers place o h = cond-false (eqb o.reason ADMITTED) _ _ (ne_eqb o.reason ADMITTED h)

not_awarded : (budgets : List Units) (before : Standing) (offers : List Offer) (imp place : ℕ) (o : Offer) → o.reason ≢ 0 → is_place (chosen_at budgets (standing_at budgets before offers imp) offers imp) place ≡ false → (eqb (reason_at budgets before offers place o) 0 && eqb o.imp imp) ≡ false
not_awarded budgets before offers imp place o reason elsewhere = elim (cases_eq o.imp imp) [
  | inl same ↦
      let chosen_is : ℕ → Bool = λ j. is_place (chosen_at budgets (standing_at budgets before offers j) offers j) place in
      let here : chosen_is o.imp ≡ false = ap chosen_is same ∙ elsewhere in
      let does_fit : Bool = fits budgets (standing_at budgets before offers o.imp) o in
      and_left (eqb (reason_at budgets before offers place o) 0) _ (elim (cases_eq o.reason ADMITTED) [
        | inl admitted ↦ ap (λ (r : ℕ). eqb r 0) (reason_of_admitted budgets before offers place o admitted ∙ ap (λ (b : Bool). decided b does_fit) here) ∙ decided_lost does_fit
        | inr refused ↦ ap (λ (r : ℕ). eqb r 0) (reason_of_refused budgets before offers place o refused) ∙ ne_eqb o.reason 0 reason
      ])
  | inr apart ↦ and_right (eqb (reason_at budgets before offers place o) 0) (eqb o.imp imp) (ne_eqb o.imp imp apart)
]

awarded_here : (budgets : List Units) (before : Standing) (offers : List Offer) (imp place : ℕ) (o : Offer) → o.reason ≡ ADMITTED → o.imp ≡ imp → is_place (chosen_at budgets (standing_at budgets before offers imp) offers imp) place ≡ true → (eqb (reason_at budgets before offers place o) 0 && eqb o.imp imp) ≡ true
awarded_here budgets before offers imp place o admitted same chosen =
    let chosen_is : ℕ → Bool = λ j. is_place (chosen_at budgets (standing_at budgets before offers j) offers j) place in
    let here : chosen_is o.imp ≡ true = ap chosen_is same ∙ chosen in
    let does_fit : Bool = fits budgets (standing_at budgets before offers o.imp) o in
    and_from (eqb (reason_at budgets before offers place o) 0) (eqb o.imp imp)
    (ap (λ (r : ℕ). eqb r 0) (reason_of_admitted budgets before offers place o admitted ∙ ap (λ (b : Bool). decided b does_fit) here))
    (eq-eqb o.imp imp same)

-- what a place adds to the charges of an impression's awards
abbrev awarded_charge : List Units → Standing → List Offer → ℕ → ℕ → ℕ × Offer → ℕ
awarded_charge budgets before offers imp campaign p =
    cond (eqb (reason_at budgets before offers p.0 p.1) 0 && eqb p.1.imp imp) (charge_for campaign p.1) 0

awarded_by : (budgets : List Units) (before : Standing) (offers : List Offer) (imp campaign : ℕ) (chosen : Option ℕ) → All (λ o. IsUndecidedReason o.reason) offers → chosen_at budgets (standing_at budgets before offers imp) offers imp ≡ chosen → sum_by (awarded_charge budgets before offers imp campaign) (enumerate_from 0 offers) ≡ taken_by offers chosen campaign
awarded_by budgets before offers imp campaign None undecided e =
    let f : ℕ × Offer → ℕ = awarded_charge budgets before offers imp campaign in
    let nothing : ℕ × Offer → ℕ = λ p. 0 in
    sum_by-enumerate f nothing 0 offers (λ k d below.
    cond-false _ _ _ (not_awarded budgets before offers imp (0 + k) (get_or offers k d) (undecided k d below).0 (ap (λ (o : Option ℕ). is_place o (0 + k)) e)))
    ∙ sum_by-none nothing (enumerate_from 0 offers) (λ _. refl)
awarded_by budgets before offers imp campaign (Some place) undecided e =
    let f : ℕ × Offer → ℕ = awarded_charge budgets before offers imp campaign in
    let found = chosen_found budgets (standing_at budgets before offers imp) offers imp place no_offer e in
    let o : Offer = get_or offers place no_offer in
    let c = competes_means budgets (standing_at budgets before offers imp) imp o found.1 in
    sum_by-one f 0 offers place no_offer found.0 (λ k d below apart.
    cond-false _ _ _ (not_awarded budgets before offers imp (0 + k) (get_or offers k d) (undecided k d below).0 (ap (λ (w : Option ℕ). is_place w (0 + k)) e ∙ ne_eqb place (0 + k) (λ same. apart (omega arith)))))
    ∙ cond-true _ _ _ (awarded_here budgets before offers imp (0 + place) o c.admitted c.imp_is (ap (λ (w : Option ℕ). is_place w (0 + place)) e ∙ eq-eqb place (0 + place) (omega arith)))

-- the awards of an impression take from a campaign what the choice takes
pub awarded_money : (budgets : List Units) (before : Standing) (offers : List Offer) (imp campaign : ℕ) → All (λ o. IsUndecidedReason o.reason) offers → sum_by (charge_for campaign) (filter (λ o. eqb o.reason 0 && eqb o.imp imp) (settled_offers budgets before offers)) ≡ taken_at budgets before offers campaign imp
unfolding settled_offers
awarded_money budgets before offers imp campaign undecided =
    let h : ℕ × Offer → Offer = λ p. record p.1 { reason = reason_at budgets before offers p.0 p.1 } in
    let test : Offer → Bool = λ o. eqb o.reason 0 && eqb o.imp imp in
    let kept : Offer → ℕ = λ o. cond (test o) (charge_for campaign o) 0 in
    sum_by-filter (charge_for campaign) test (map h (enumerate_from 0 offers))
    ∙ (sum_by-map kept h (enumerate_from 0 offers)
    ∙ awarded_by budgets before offers imp campaign (chosen_at budgets (standing_at budgets before offers imp) offers imp) undecided refl)

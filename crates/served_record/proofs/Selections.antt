-- The awarded offer of an ask's impression is the rule's choice among all that were admitted for it.
use Rattle.std.proofs.Common.{◌≡◌, ◌↔◌, ◌≢◌, ℕ, zero, suc, ◌+◌, ◌*◌, ◌<◌, List, [], ◌∷◌, map, length, get_or, Bool, true, false, not, cond, ◌&&◌, ◌||◌, eqb, leb, refl, sym, ap, ap₂, ◌∙◌, subst, inl, inr, arith, Option, Some, None, option_and_then}
use Rattle.std.specs.List.{All, cons_option, list_all, position, slice_get, sum_by}
use Rattle.std.proofs.lemmas.Bool.{and_from, and_parts, both_ways, cases_eq, eq-eqb, eqb-true, false≢true, ne_eqb}
use Rattle.std.proofs.lemmas.List.{get_or-map}
use Rattle.std.proofs.lemmas.List.Sums.{sum_by-cons}
use Rattle.std.proofs.lemmas.Option.{get_or_from_slice_get, slice_get_within}
use Rattle.adx_units.specs.declared.offer.Offer.{Offer}
use Rattle.adx_units.specs.declared.offer.TheConstants.{ADMITTED}
use Rattle.adx_units.specs.declared.units.Units.{Units}
use Rattle.allocator_core.specs.declared.reason.TheConstants.{AWARDED}
use Rattle.allocator_core.specs.Choice.{Standing, budget_at as budget_in, chosen_at, competes, decided, fits as fits_budget, is_greatest as is_greatest_offer, is_place, reason_at, settled_offers, standing_at, weight_of as weight_by}
use Rattle.allocator_core.proofs.Choosing.{charge_for as offer_charge, chosen_found, competes_means, reason_of_admitted, reason_of_refused}
use Rattle.allocator_core.proofs.Settled.{length-settled, settled_at}
use Rattle.day_rules.specs.declared.ask.Ask.{Ask}
use Rattle.day_rules.specs.declared.entry.Entry.{Entry}
use Rattle.day_rules.specs.Asks.{admitted_again, is_decided, undecided}
use Rattle.day_rules.specs.Books.{awarded_offers, committed}
use Rattle.day_rules.specs.Laws.{StandsSettled}
use Rattle.day_rules.specs.Terms.{Terms, budgets_after}
use Rattle.bid_record.specs.declared.rows.CampaignRow.{CampaignRow}
use Rattle.campaign_book.specs.Discount.{discount, slab_of}
use Rattle.dual_cert.specs.Assignments.{charge_for, no_charge, picked_charge}
use Rattle.day_close.specs.Choosing.{budget_at, choice_of, fits, is_greatest, weight_of}
use Rattle.served_record.proofs.Campaigns.{row_budgets}
use Rattle.served_record.specs.Served.{admitted, charge_of, chosen_of, impression_of, is_admitted, is_awarded}
use Rattle.served_record.specs.Steps.{is_award}
use Rattle.served_record.proofs.Asked.{SellsOnce, awarded_admitted}
use Rattle.served_record.proofs.Lists.{found_at}
use Rattle.served_record.proofs.FirstPlaces.{IsFirst, all_beaten, first_kept, list_all-map, position-map, position-same}

-- a campaign has the same budget in a day's terms and in its record
pub same_budget : (cs : List CampaignRow) (campaign : ℕ) → budget_in (row_budgets cs) campaign ≡ budget_at cs campaign
same_budget [] campaign = refl
same_budget (c ∷ cs) zero = refl
same_budget (c ∷ cs) (suc campaign) = same_budget cs campaign

-- what an offer read as admitted keeps
again_imp : (o : Offer) (b : Bool) → (cond b (record o { reason = ADMITTED }) o).imp ≡ o.imp
again_imp o true = refl
again_imp o false = refl

again_charge : (o : Offer) (b : Bool) → charge_of (cond b (record o { reason = ADMITTED }) o) ≡ charge_of o
again_charge o true = refl
again_charge o false = refl

same_imp : (o : Offer) → (admitted_again o).imp ≡ o.imp
same_imp o = again_imp o (is_decided o.reason)

same_charge : (o : Offer) → charge_of (admitted_again o) ≡ charge_of o
same_charge o = again_charge o (is_decided o.reason)

again_reason : (o : Offer) (b : Bool) → o.reason ≢ ADMITTED → (eqb (cond b (record o { reason = ADMITTED }) o).reason ADMITTED) ≡ b
again_reason o true apart = refl
again_reason o false apart = ne_eqb o.reason ADMITTED apart

-- fits and weights by the terms and by the record
same_fits : (cs : List CampaignRow) (standing : Standing) (o : Offer) → fits_budget (row_budgets cs) standing (admitted_again o) ≡ fits cs standing (charge_of o)
same_fits cs standing o =
    ap (λ (n : ℕ). leb (standing (admitted_again o).campaign + (admitted_again o).charge.0) n) (same_budget cs (admitted_again o).campaign)
    ∙ ap (fits cs standing) (same_charge o)

same_weight : (cs : List CampaignRow) (standing : Standing) (o : Offer) → weight_by (row_budgets cs) standing (admitted_again o) ≡ weight_of cs standing (charge_of o)
same_weight cs standing o =
    ap (λ (n : ℕ). (admitted_again o).charge.0 * discount (slab_of (standing (admitted_again o).campaign) n)) (same_budget cs (admitted_again o).campaign)
    ∙ ap (weight_of cs standing) (same_charge o)

abbrev NotAdmitted : Offer → Type 0
NotAdmitted o = o.reason ≢ ADMITTED

-- an offer competes for an impression just where it was admitted for it, and fits
competes_is : (cs : List CampaignRow) (standing : Standing) (imp : ℕ) (o : Offer) → NotAdmitted o → competes (row_budgets cs) standing imp (admitted_again o) ≡ (eqb o.imp imp && is_decided o.reason && fits cs standing (charge_of o))
competes_is cs standing imp o apart =
    ap (λ (n : ℕ). eqb n imp && eqb (admitted_again o).reason ADMITTED && fits_budget (row_budgets cs) standing (admitted_again o)) (same_imp o)
    ∙ (ap (λ (b : Bool). eqb o.imp imp && b && fits_budget (row_budgets cs) standing (admitted_again o)) (again_reason o (is_decided o.reason) apart)
    ∙ ap (λ (b : Bool). eqb o.imp imp && is_decided o.reason && b) (same_fits cs standing o))

competes_by : (i d f : Bool) → (d && i) ≡ true → (i && d && f) ≡ f
competes_by true true f h = refl
competes_by true false f h = absurd (false≢true h)
competes_by false true f h = absurd (false≢true h)
competes_by false false f h = absurd (false≢true h)

competes_not : (i d f : Bool) → (d && i) ≡ false → (i && d && f) ≡ false
competes_not true true f h = absurd (false≢true (sym h))
competes_not true false f h = refl
competes_not false d f h = refl

admitted_by : (i d f : Bool) → (i && d && f) ≡ true → (d && i) ≡ true
admitted_by true true f h = refl
admitted_by true false f h = h
admitted_by false d f h = absurd (false≢true h)

is_decided_not : (o : Offer) → (b : Bool) → is_decided o.reason ≡ b → b ≡ true → NotAdmitted o
is_decided_not o b is holds admitted =
    both_ways (is_decided o.reason) (ap is_decided admitted) (is ∙ holds)

-- an ask as it is settled after some entries, under these budgets
pub record StandsBy (budgets : List Units) (before : List Entry) (a : Ask) : Type 0 where
  pub offers : a.offers ≡ settled_offers budgets (committed before) (undecided a).offers
  pub awarded : (place : ℕ) (o : Offer) → slice_get a.offers place ≡ Some o
      → (o.reason ≡ AWARDED) ↔ (chosen_at budgets (standing_at budgets (committed before) (undecided a).offers o.imp) (undecided a).offers o.imp ≡ Some place)

-- the budgets after the entries may be said in other words
pub stands_by : (terms : Terms) (before : List Entry) (a : Ask) (budgets : List Units) → budgets_after terms before ≡ budgets → StandsSettled terms before a → StandsBy budgets before a
stands_by terms before a budgets same s =
    let own : StandsBy (budgets_after terms before) before a = record { offers = s.offers; awarded = s.awarded } in
    subst (λ (bs : List Units). StandsBy bs before a) same own

-- no offer of a settled ask is still to be decided
not_mark : (chosen does_fit : Bool) → decided chosen does_fit ≢ ADMITTED
not_mark true does_fit h = omega arith
not_mark false true h = omega arith
not_mark false false h = omega arith

reason_decided : (budgets : List Units) (before : Standing) (offers : List Offer) (place : ℕ) (o : Offer) → reason_at budgets before offers place o ≢ ADMITTED
reason_decided budgets before offers place o is = elim (cases_eq o.reason ADMITTED) [
  | inl admitted ↦
      let standing : Standing = standing_at budgets before offers o.imp in
      not_mark (is_place (chosen_at budgets standing offers o.imp) place) (fits_budget budgets standing o) (sym (reason_of_admitted budgets before offers place o admitted) ∙ is)
  | inr refused ↦ refused (sym (reason_of_refused budgets before offers place o refused) ∙ is)
]

none_admitted : (budgets : List Units) (before : List Entry) (a : Ask) → StandsBy budgets before a → All NotAdmitted a.offers
none_admitted budgets before a s =
    let was : List Offer = (undecided a).offers in
    subst (All NotAdmitted) (sym s.offers) (λ k d below.
    let within : k < length was = omega (arith, length-settled budgets (committed before) was) in
    subst NotAdmitted (sym (settled_at budgets (committed before) was k d within)) (reason_decided budgets (committed before) was k (get_or was k d)))

-- what the campaigns have committed for an impression of an ask after some entries
abbrev pub standing_for : List CampaignRow → List Entry → Ask → ℕ → Standing
standing_for cs before a imp = standing_at (row_budgets cs) (committed before) (undecided a).offers imp

-- an offer of an ask is one of the greatest for the impression
abbrev is_top : List CampaignRow → List Entry → Ask → ℕ → Offer → Bool
is_top cs before a imp o = is_greatest_offer (row_budgets cs) (standing_for cs before a imp) (undecided a).offers imp (admitted_again o)

-- the choice is the first of them
chosen_top : (cs : List CampaignRow) (before : List Entry) (a : Ask) (imp : ℕ) → chosen_at (row_budgets cs) (standing_for cs before a imp) (undecided a).offers imp ≡ position (is_top cs before a imp) a.offers
unfolding chosen_at
chosen_top cs before a imp =
    position-map (is_greatest_offer (row_budgets cs) (standing_for cs before a imp) (undecided a).offers imp) admitted_again a.offers

-- an offer is awarded for an impression just where it is the first of the greatest
first_awarded : (cs : List CampaignRow) (before : List Entry) (a : Ask) (imp : ℕ) → StandsBy (row_budgets cs) before a → IsFirst (is_award imp) (is_top cs before a imp) a.offers
first_awarded cs before a imp s k x at =
    let choice : ℕ → Option ℕ = λ j. chosen_at (row_budgets cs) (standing_for cs before a j) (undecided a).offers j in
    let was : List Offer = (undecided a).offers in
    let top = chosen_top cs before a imp in (
      λ passes.
          let parts = and_parts (eqb x.reason AWARDED) (eqb x.imp imp) passes in
          sym top ∙ (ap choice (sym (eqb-true x.imp imp parts.1)) ∙ (s.awarded k x at).0 (eqb-true x.reason AWARDED parts.0)),
      λ is.
          let chosen : choice imp ≡ Some k = top ∙ is in
          let found = chosen_found (row_budgets cs) (standing_for cs before a imp) was imp k x chosen in
          let means = competes_means (row_budgets cs) (standing_for cs before a imp) imp (get_or was k x) found.1 in
          let within : k < length a.offers = slice_get_within a.offers k x at in
          let stands : get_or was k x ≡ admitted_again x = get_or-map admitted_again a.offers k x x within ∙ ap admitted_again (get_or_from_slice_get a.offers k x x at) in
          let here : x.imp ≡ imp = sym (same_imp x) ∙ (ap (λ (o : Offer). o.imp) (sym stands) ∙ means.imp_is) in
          let awarded : x.reason ≡ AWARDED = (s.awarded k x at).1 (ap choice here ∙ chosen) in
          and_from (eqb x.reason AWARDED) (eqb x.imp imp) (eq-eqb x.reason AWARDED awarded) (eq-eqb x.imp imp here),
    )

and_true : (a i : Bool) → i ≡ true → a ≡ (a && i)
and_true true true h = refl
and_true false true h = refl
and_true a false h = absurd (false≢true h)

admitted_marks : (imp : ℕ) (o : Offer) → is_admitted imp o ≡ true → NotAdmitted o
admitted_marks imp o h = is_decided_not o (is_decided o.reason) refl (and_parts (is_decided o.reason) (eqb o.imp imp) h).0

-- among what was admitted for an impression, the greatest by the terms are those by the record
same_top : (cs : List CampaignRow) (before : List Entry) (a : Ask) (imp : ℕ) (o : Offer) → All NotAdmitted a.offers → is_admitted imp o ≡ true → is_top cs before a imp o ≡ is_greatest cs (standing_for cs before a imp) (impression_of a imp) (charge_of o)
same_top cs before a imp o none admitted =
    let budgets : List Units = row_budgets cs in
    let standing : Standing = standing_for cs before a imp in
    let most : ℕ = weight_by budgets standing (admitted_again o) in
    let here : (x : Offer) → is_admitted imp x ≡ true → competes budgets standing imp (admitted_again x) ≡ fits cs standing (charge_of x) = λ x h.
    competes_is cs standing imp x (admitted_marks imp x h) ∙ competes_by (eqb x.imp imp) (is_decided x.reason) (fits cs standing (charge_of x)) h in
    let not_here : (x : Offer) → NotAdmitted x → is_admitted imp x ≡ false → competes budgets standing imp (admitted_again x) ≡ false = λ x apart h.
    competes_is cs standing imp x apart ∙ competes_not (eqb x.imp imp) (is_decided x.reason) (fits cs standing (charge_of x)) h in
    let beaten = all_beaten (λ x. competes budgets standing imp (admitted_again x)) (is_admitted imp) (λ x. weight_by budgets standing (admitted_again x)) (fits cs standing) (weight_of cs standing) charge_of NotAdmitted most a.offers none here not_here (same_weight cs standing) in
    ap₂ (λ (x y : Bool). x && y) (here o admitted)
    (list_all-map (λ other. not (competes budgets standing imp other) || leb (weight_by budgets standing other) most) admitted_again a.offers
    ∙ (beaten
    ∙ ap (λ (n : ℕ). list_all (λ other. not (fits cs standing other) || leb (weight_of cs standing other) n) (impression_of a imp)) (same_weight cs standing o)))

-- so the chosen offer of an impression is the rule's choice
pub chosen_is_choice : (cs : List CampaignRow) (before : List Entry) (a : Ask) (imp : ℕ) → StandsBy (row_budgets cs) before a → chosen_of a imp ≡ choice_of cs (standing_for cs before a imp) (impression_of a imp)
chosen_is_choice cs before a imp s =
    let standing : Standing = standing_for cs before a imp in
    let none = none_admitted (row_budgets cs) before a s in
    let keeps : (x : Offer) → NotAdmitted x → is_top cs before a imp x ≡ true → is_admitted imp x ≡ true = λ x apart top.
    let one = and_parts (competes (row_budgets cs) standing imp (admitted_again x)) _ top in
    admitted_by (eqb x.imp imp) (is_decided x.reason) (fits cs standing (charge_of x)) (sym (competes_is cs standing imp x apart) ∙ one.0) in
    position-same is_awarded (is_award imp) (is_admitted imp) a.offers (λ x h. and_true (is_awarded x) (eqb x.imp imp) (and_parts (is_decided x.reason) (eqb x.imp imp) h).1)
    ∙ (first_kept (is_award imp) (is_top cs before a imp) (is_admitted imp) NotAdmitted a.offers none keeps (first_awarded cs before a imp s)
    ∙ (position-same (is_top cs before a imp) (λ o. is_greatest cs standing (impression_of a imp) (charge_of o)) (is_admitted imp) a.offers (λ x h. same_top cs before a imp x none h)
    ∙ sym (position-map (is_greatest cs standing (impression_of a imp)) charge_of (admitted imp a.offers))))

-- what the awarded offer of an impression takes from a campaign
cond_same : (b : Bool) (n : ℕ) → n ≡ cond b n n
cond_same true n = refl
cond_same false n = refl

taken_at_place : (campaign : ℕ) (offers : List Offer) (place : ℕ) → sum_by (offer_charge campaign) (cons_option (slice_get offers place) []) ≡ charge_for campaign (get_or (map charge_of offers) place no_charge)
taken_at_place campaign [] place = cond_same (eqb 0 campaign) 0
taken_at_place campaign (o ∷ os) zero = let one = sum_by-cons (offer_charge campaign) o [] in omega (arith, one)
taken_at_place campaign (o ∷ os) (suc place) = taken_at_place campaign os place

pub taken_one : (a : Ask) (imp campaign : ℕ) → SellsOnce a → sum_by (offer_charge campaign) (awarded_offers a.offers imp) ≡ picked_charge campaign (impression_of a imp) (chosen_of a imp)
taken_one a imp campaign once =
    ap (sum_by (offer_charge campaign)) (once imp)
    ∙ (ap (λ (o : Option Offer). sum_by (offer_charge campaign) (cons_option o [])) (sym (awarded_admitted imp a.offers) ∙ found_at is_awarded (admitted imp a.offers))
    ∙ by (chosen_of a imp))
  where
    by : (o : Option ℕ) → sum_by (offer_charge campaign) (cons_option (option_and_then (slice_get (admitted imp a.offers)) o) []) ≡ picked_charge campaign (impression_of a imp) o
    by None = refl
    by (Some place) = taken_at_place campaign (admitted imp a.offers) place

-- The offers while one impression after another is decided.
use Rattle.std.proofs.Common.{◌≡◌, ◌≢◌, ◌⊎◌, ℕ, suc, ◌+◌, ◌<◌, ◌≤◌, List, [], map, length, get_or, set, Bool, true, false, cond, ◌&&◌, eqb, ltb, refl, sym, ap, ◌∙◌, subst, inl, inr, arith, Option, Some, None, IfSome}
use Rattle.std.specs.List.{All, enumerate_from}
use Rattle.std.proofs.lemmas.List.{get_or-map, get_or-set_same, get_or-set_other, get_or_default, length-map, length-set, same_lists}
use Rattle.std.proofs.lemmas.List.FromFn.{length-enumerate_from, get_or-enumerate_from}
use Rattle.std.proofs.lemmas.Bool.{cases_eq, cases_lt, cond-true, cond-false, and_left, and_right, and_from, eq-eqb, ne_eqb, lt-ltb, le-ltb}
use Rattle.adx_units.specs.declared.units.Units.{Units}
use Rattle.adx_units.specs.declared.offer.Offer.{Offer}
use Rattle.adx_units.specs.declared.offer.TheConstants.{ADMITTED}
use Rattle.allocator_core.specs.declared.reason.TheConstants.{AWARDED}
use Rattle.allocator_core.specs.Choice.{Standing, chosen_at, competes, decided, fits, is_place, reason_at, settled_offers, standing_at, taken_by, no_offer}
use Rattle.allocator_core.specs.declared.taken.Take.{Take}
use Rattle.campaign_book.specs.Accounts.{Account}
use Rattle.allocator_core.specs.Settling.{AreOffers, IsPriced, IsUnsettled, budgets_in, standing_in}
use Rattle.allocator_core.specs.Passes.{decided_offers, passed, settled_below, standing_with, taken_from}
use Rattle.allocator_core.proofs.Lists.{Alike}
use Rattle.allocator_core.proofs.Choosing.{chosen_alike, chosen_found, competes_means, reason_of_admitted, reason_of_refused, charge_for, standing_start, standing_step}

abbrev pub with_reason : Offer → ℕ → Offer
with_reason o r = record o { reason = r }

-- the test that an offer may be awarded for the impression
abbrev pub is_candidate : ℕ → Offer → Bool
is_candidate imp o = eqb o.imp imp && eqb o.reason ADMITTED

pub candidate : (imp : ℕ) (o : Offer) → o.imp ≡ imp → o.reason ≡ ADMITTED → is_candidate imp o ≡ true
candidate imp o same admitted = and_from (eqb o.imp imp) (eqb o.reason ADMITTED) (eq-eqb o.imp imp same) (eq-eqb o.reason ADMITTED admitted)

pub no_candidate : (imp : ℕ) (o : Offer) → (o.imp ≢ imp) ⊎ (o.reason ≢ ADMITTED) → is_candidate imp o ≡ false
no_candidate imp o (inl apart) = and_left (eqb o.imp imp) (eqb o.reason ADMITTED) (ne_eqb o.imp imp apart)
no_candidate imp o (inr refused) = and_right (eqb o.imp imp) (eqb o.reason ADMITTED) (ne_eqb o.reason ADMITTED refused)

-- a list whose items are made by their places
made_at : (f : ℕ × Offer → Offer) (offers : List Offer) (k : ℕ) (d : Offer) → k < length offers → get_or (map f (enumerate_from 0 offers)) k d ≡ f (k, get_or offers k d)
made_at f offers k d within =
    let inside : k < length (enumerate_from 0 offers) = omega (arith, length-enumerate_from 0 offers) in
    get_or-map f (enumerate_from 0 offers) k (0, d) d inside
    ∙ (ap f (get_or-enumerate_from 0 offers k (0, d) within) ∙ ap (λ (j : ℕ). f (j, get_or offers k d)) (let e : 0 + k ≡ k = omega arith in e))

length-made : (f : ℕ × Offer → Offer) (offers : List Offer) → length (map f (enumerate_from 0 offers)) ≡ length offers
length-made f offers = length-map (enumerate_from 0 offers) f ∙ length-enumerate_from 0 offers

pub length-settled : (budgets : List Units) (before : Standing) (offers : List Offer) → length (settled_offers budgets before offers) ≡ length offers
unfolding settled_offers
length-settled budgets before offers = length-made (λ p. with_reason p.1 (reason_at budgets before offers p.0 p.1)) offers

pub settled_at : (budgets : List Units) (before : Standing) (offers : List Offer) (k : ℕ) (d : Offer) → k < length offers → get_or (settled_offers budgets before offers) k d ≡ with_reason (get_or offers k d) (reason_at budgets before offers k (get_or offers k d))
unfolding settled_offers
settled_at budgets before offers k d within = made_at (λ p. with_reason p.1 (reason_at budgets before offers p.0 p.1)) offers k d within

length-below : (budgets : List Units) (before : Standing) (offers : List Offer) (imp : ℕ) → length (settled_below budgets before offers imp) ≡ length offers
unfolding settled_below
length-below budgets before offers imp = length-made (λ p. cond (ltb p.1.imp imp) (with_reason p.1 (reason_at budgets before offers p.0 p.1)) p.1) offers

below_at : (budgets : List Units) (before : Standing) (offers : List Offer) (imp k : ℕ) (d : Offer) → k < length offers → get_or (settled_below budgets before offers imp) k d ≡ cond (ltb (get_or offers k d).imp imp) (with_reason (get_or offers k d) (reason_at budgets before offers k (get_or offers k d))) (get_or offers k d)
unfolding settled_below
below_at budgets before offers imp k d within = made_at (λ p. cond (ltb p.1.imp imp) (with_reason p.1 (reason_at budgets before offers p.0 p.1)) p.1) offers k d within

-- an offer of an impression that is decided, and one of a later one
below_decided : (budgets : List Units) (before : Standing) (offers : List Offer) (imp k : ℕ) (d : Offer) → k < length offers → (get_or offers k d).imp < imp → get_or (settled_below budgets before offers imp) k d ≡ with_reason (get_or offers k d) (reason_at budgets before offers k (get_or offers k d))
below_decided budgets before offers imp k d within earlier =
    below_at budgets before offers imp k d within ∙ cond-true _ _ _ (lt-ltb (get_or offers k d).imp imp earlier)

below_as_came : (budgets : List Units) (before : Standing) (offers : List Offer) (imp k : ℕ) (d : Offer) → k < length offers → imp ≤ (get_or offers k d).imp → get_or (settled_below budgets before offers imp) k d ≡ get_or offers k d
below_as_came budgets before offers imp k d within later =
    below_at budgets before offers imp k d within ∙ cond-false _ _ _ (le-ltb (get_or offers k d).imp imp later)

abbrev decided_item : List Units → Standing → ℕ → Option ℕ → ℕ → Offer → Offer
decided_item budgets standing imp chosen place o =
    cond (is_candidate imp o) (with_reason o (decided (is_place chosen place) (fits budgets standing o))) o

length-decided : (budgets : List Units) (standing : Standing) (imp : ℕ) (offers : List Offer) → length (decided_offers budgets standing imp offers) ≡ length offers
unfolding decided_offers
length-decided budgets standing imp offers = length-made (λ p. decided_item budgets standing imp (chosen_at budgets standing offers imp) p.0 p.1) offers

decided_at : (budgets : List Units) (standing : Standing) (imp : ℕ) (offers : List Offer) (k : ℕ) (d : Offer) → k < length offers → get_or (decided_offers budgets standing imp offers) k d ≡ decided_item budgets standing imp (chosen_at budgets standing offers imp) k (get_or offers k d)
unfolding decided_offers
decided_at budgets standing imp offers k d within = made_at (λ p. decided_item budgets standing imp (chosen_at budgets standing offers imp) p.0 p.1) offers k d within

-- what a pass leaves of an offer
pub passed_candidate : (budgets : List Units) (standing : Standing) (imp : ℕ) (o : Offer) → is_candidate imp o ≡ true → passed budgets standing imp o ≡ with_reason o (decided false (fits budgets standing o))
passed_candidate budgets standing imp o may = cond-true _ _ _ may

pub passed_at : (budgets : List Units) (standing : Standing) (imp : ℕ) (offers : List Offer) (k : ℕ) (d : Offer) → k < length offers → get_or (map (passed budgets standing imp) offers) k d ≡ passed budgets standing imp (get_or offers k d)
passed_at budgets standing imp offers k d within = get_or-map (passed budgets standing imp) offers k d d within

-- an offer that isn't chosen
decided_lost : (budgets : List Units) (standing : Standing) (imp : ℕ) (chosen : Option ℕ) (k : ℕ) (o : Offer) → is_place chosen k ≡ false → passed budgets standing imp o ≡ decided_item budgets standing imp chosen k o
decided_lost budgets standing imp chosen k o elsewhere =
    ap (λ (b : Bool). cond (is_candidate imp o) (with_reason o (decided b (fits budgets standing o))) o) (sym elsewhere)

pub decided_none : (budgets : List Units) (standing : Standing) (imp : ℕ) (offers : List Offer) → chosen_at budgets standing offers imp ≡ None → map (passed budgets standing imp) offers ≡ decided_offers budgets standing imp offers
decided_none budgets standing imp offers none =
    let f : Offer → Offer = passed budgets standing imp in
    same_lists (map f offers) (decided_offers budgets standing imp offers) (length-map offers f ∙ sym (length-decided budgets standing imp offers))
    (λ k d below.
    let within : k < length offers = omega (arith, length-map offers f) in
    passed_at budgets standing imp offers k d within
    ∙ (decided_lost budgets standing imp (chosen_at budgets standing offers imp) k (get_or offers k d) (ap (λ (c : Option ℕ). is_place c k) none)
    ∙ sym (decided_at budgets standing imp offers k d within)))

-- the chosen offer
pub record IsChosen (budgets : List Units) (standing : Standing) (imp : ℕ) (offers : List Offer) (place : ℕ) (d : Offer) : Type 0 where
  pub within : place < length offers
  pub admitted : (get_or offers place d).reason ≡ ADMITTED
  pub may : is_candidate imp (get_or offers place d) ≡ true

pub chosen_is : (budgets : List Units) (standing : Standing) (imp : ℕ) (offers : List Offer) (place : ℕ) (d : Offer) → chosen_at budgets standing offers imp ≡ Some place → IsChosen budgets standing imp offers place d
chosen_is budgets standing imp offers place d chosen =
    let o : Offer = get_or offers place d in
    let found = chosen_found budgets standing offers imp place d chosen in
    let c = competes_means budgets standing imp o found.1 in
    record { within = found.0; admitted = c.admitted; may = candidate imp o c.imp_is c.admitted }

pub decided_some : (budgets : List Units) (standing : Standing) (imp : ℕ) (offers : List Offer) (place : ℕ) (d : Offer) → chosen_at budgets standing offers imp ≡ Some place → set (map (passed budgets standing imp) offers) place (with_reason (get_or (map (passed budgets standing imp) offers) place d) AWARDED) ≡ decided_offers budgets standing imp offers
decided_some budgets standing imp offers place d chosen =
    let f : Offer → Offer = passed budgets standing imp in
    let left : List Offer = map f offers in
    let top : Offer = with_reason (get_or left place d) AWARDED in
    let long : length (set left place top) ≡ length offers = length-set left place top ∙ length-map offers f in
    same_lists (set left place top) (decided_offers budgets standing imp offers) (long ∙ sym (length-decided budgets standing imp offers))
    (λ k e below.
    let within : k < length offers = omega arith in
    let inside : k < length left = omega (arith, length-map offers f) in
    let o : Offer = get_or offers k e in
    let c : Option ℕ = chosen_at budgets standing offers imp in
    elim (cases_eq k place) [
      | inl same ↦
          let h : IsChosen budgets standing imp offers place e = chosen_is budgets standing imp offers place e chosen in
          let may : is_candidate imp o ≡ true = subst (λ (j : ℕ). is_candidate imp (get_or offers j e) ≡ true) (sym same) h.may in
          let here : is_place c k ≡ true = ap (λ (x : Option ℕ). is_place x k) chosen ∙ eq-eqb place k (sym same) in
          let read : get_or left place d ≡ with_reason o (decided false (fits budgets standing o)) =
          ap (λ (j : ℕ). get_or left j d) (sym same)
          ∙ (get_or_default left k d e inside
          ∙ (passed_at budgets standing imp offers k e within ∙ passed_candidate budgets standing imp o may)) in
          let item : decided_item budgets standing imp c k o ≡ with_reason o AWARDED =
          cond-true _ _ _ may ∙ ap (λ (b : Bool). with_reason o (decided b (fits budgets standing o))) here in
          ap (λ (j : ℕ). get_or (set left j top) k e) (sym same)
          ∙ (get_or-set_same left k top e inside
          ∙ (ap (λ (x : Offer). with_reason x AWARDED) read
          ∙ (sym item ∙ sym (decided_at budgets standing imp offers k e within))))
      | inr apart ↦
          get_or-set_other left place k top e apart
          ∙ (passed_at budgets standing imp offers k e within
          ∙ (decided_lost budgets standing imp c k o (ap (λ (x : Option ℕ). is_place x k) chosen ∙ ne_eqb place k (λ same. apart (sym same)))
          ∙ sym (decided_at budgets standing imp offers k e within)))
    ])

pub chosen_priced : (campaigns : ℕ) (budgets : List Units) (standing : Standing) (imp : ℕ) (offers : List Offer) (place : ℕ) (d : Offer) → chosen_at budgets standing offers imp ≡ Some place → All (λ o. o.reason ≡ ADMITTED → IsPriced campaigns o) offers → IsPriced campaigns (get_or (map (passed budgets standing imp) offers) place d)
chosen_priced campaigns budgets standing imp offers place d chosen priced =
    let o : Offer = get_or offers place d in
    let h : IsChosen budgets standing imp offers place d = chosen_is budgets standing imp offers place d chosen in
    let p : IsPriced campaigns o = priced place d h.within h.admitted in
    let q : IsPriced campaigns (with_reason o (decided false (fits budgets standing o))) = record { campaign = p.campaign; positive = p.positive; within = p.within } in
    subst (λ (x : Offer). IsPriced campaigns x) (sym (passed_at budgets standing imp offers place d h.within ∙ passed_candidate budgets standing imp o h.may)) q

-- before the first impression is decided the offers are as they came
pub below_none : (budgets : List Units) (before : Standing) (offers : List Offer) → offers ≡ settled_below budgets before offers 0
below_none budgets before offers =
    same_lists offers (settled_below budgets before offers 0) (sym (length-below budgets before offers 0))
    (λ k d below. sym (below_as_came budgets before offers 0 k d below (omega arith)))

-- the later impression's offers are the same in what the earlier ones left
alike_below : (budgets : List Units) (before standing : Standing) (offers : List Offer) (imp k : ℕ) (d : Offer) → k < length offers → Alike (competes budgets standing imp) (get_or (settled_below budgets before offers imp) k d) (get_or offers k d)
alike_below budgets before standing offers imp k d within =
    let o : Offer = get_or offers k d in
    elim (cases_lt o.imp imp) [
      | inl earlier ↦
          let apart : o.imp ≢ imp = λ same. absurd (omega arith) in
          let never : (r : ℕ) → competes budgets standing imp (with_reason o r) ≡ false = λ r.
          and_left (is_candidate imp (with_reason o r)) (fits budgets standing (with_reason o r)) (no_candidate imp (with_reason o r) (inl apart)) in
          inr (
            ap (competes budgets standing imp) (below_decided budgets before offers imp k d within earlier) ∙ never (reason_at budgets before offers k o),
            never o.reason,
          )
      | inr later ↦ inl (below_as_came budgets before offers imp k d within later)
    ]

pub chosen_below : (budgets : List Units) (before standing : Standing) (offers : List Offer) (imp : ℕ) → chosen_at budgets standing (settled_below budgets before offers imp) imp ≡ chosen_at budgets standing offers imp
chosen_below budgets before standing offers imp =
    chosen_alike budgets standing imp (settled_below budgets before offers imp) offers (length-below budgets before offers imp)
    (λ k d below. alike_below budgets before standing offers imp k d (omega (arith, length-below budgets before offers imp)))

-- the reason of an offer of the impression that is being decided
reason_here : (budgets : List Units) (before : Standing) (offers : List Offer) (imp k : ℕ) (o : Offer) → o.imp ≡ imp → decided_item budgets (standing_at budgets before offers imp) imp (chosen_at budgets (standing_at budgets before offers imp) offers imp) k o ≡ with_reason o (reason_at budgets before offers k o)
reason_here budgets before offers imp k o same = elim (cases_eq o.reason ADMITTED) [
  | inl admitted ↦
      let r : ℕ → ℕ = λ i. decided (is_place (chosen_at budgets (standing_at budgets before offers i) offers i) k) (fits budgets (standing_at budgets before offers i) o) in
      cond-true _ _ _ (candidate imp o same admitted)
      ∙ ap (with_reason o) (ap r (sym same) ∙ sym (reason_of_admitted budgets before offers k o admitted))
  | inr refused ↦
      cond-false _ _ _ (no_candidate imp o (inr refused))
      ∙ ap (with_reason o) (sym (reason_of_refused budgets before offers k o refused))
]

-- deciding one more impression
pub below_more : (budgets : List Units) (before : Standing) (offers : List Offer) (imp : ℕ) → decided_offers budgets (standing_at budgets before offers imp) imp (settled_below budgets before offers imp) ≡ settled_below budgets before offers (imp + 1)
below_more budgets before offers imp =
    let standing : Standing = standing_at budgets before offers imp in
    let left : List Offer = settled_below budgets before offers imp in
    let long : length (decided_offers budgets standing imp left) ≡ length offers = length-decided budgets standing imp left ∙ length-below budgets before offers imp in
    same_lists (decided_offers budgets standing imp left) (settled_below budgets before offers (imp + 1)) (long ∙ sym (length-below budgets before offers (imp + 1)))
    (λ k d below.
    let within : k < length offers = omega arith in
    let inside : k < length left = omega (arith, length-below budgets before offers imp) in
    let o : Offer = get_or offers k d in
    let f : Option ℕ → Offer → Offer = λ chosen x. decided_item budgets standing imp chosen k x in
    let start : get_or (decided_offers budgets standing imp left) k d ≡ f (chosen_at budgets standing offers imp) (get_or left k d) =
    decided_at budgets standing imp left k d inside ∙ ap (λ (c : Option ℕ). f c (get_or left k d)) (chosen_below budgets before standing offers imp) in
    elim (cases_lt o.imp imp) [
      | inl earlier ↦
          let apart : o.imp ≢ imp = λ same. absurd (omega arith) in
          let r : ℕ = reason_at budgets before offers k o in
          start
          ∙ (ap (f (chosen_at budgets standing offers imp)) (below_decided budgets before offers imp k d within earlier)
          ∙ (cond-false _ _ _ (no_candidate imp (with_reason o r) (inl apart))
          ∙ sym (below_decided budgets before offers (imp + 1) k d within (omega arith))))
      | inr later ↦ elim (cases_eq o.imp imp) [
        | inl same ↦
            start
            ∙ (ap (f (chosen_at budgets standing offers imp)) (below_as_came budgets before offers imp k d within later)
            ∙ (reason_here budgets before offers imp k o same
            ∙ sym (below_decided budgets before offers (imp + 1) k d within (omega arith))))
        | inr apart ↦
            start
            ∙ (ap (f (chosen_at budgets standing offers imp)) (below_as_came budgets before offers imp k d within later)
            ∙ (cond-false _ _ _ (no_candidate imp o (inl apart))
            ∙ sym (below_as_came budgets before offers (imp + 1) k d within (omega arith))))
      ]
    ])

-- after the last impression all offers are settled
pub below_all : (budgets : List Units) (before : Standing) (offers : List Offer) (imps : ℕ) → All (λ o. o.reason ≡ ADMITTED → o.imp < imps) offers → settled_below budgets before offers imps ≡ settled_offers budgets before offers
below_all budgets before offers imps within_imps =
    same_lists (settled_below budgets before offers imps) (settled_offers budgets before offers) (length-below budgets before offers imps ∙ sym (length-settled budgets before offers))
    (λ k d below.
    let within : k < length offers = omega (arith, length-below budgets before offers imps) in
    let o : Offer = get_or offers k d in
    elim (cases_lt o.imp imps) [
      | inl earlier ↦ below_decided budgets before offers imps k d within earlier ∙ sym (settled_at budgets before offers k d within)
      | inr later ↦
          let refused : o.reason ≢ ADMITTED = λ admitted. let i = within_imps k d within admitted in absurd (omega arith) in
          below_as_came budgets before offers imps k d within later
          ∙ (ap (with_reason o) (sym (reason_of_refused budgets before offers k o refused))
          ∙ sym (settled_at budgets before offers k d within))
    ])

-- what may be awarded for the later impressions is priced
pub priced_below : (campaigns : ℕ) (budgets : List Units) (before : Standing) (offers : List Offer) (imp : ℕ) → AreOffers campaigns offers → All (λ o. o.reason ≡ ADMITTED → IsPriced campaigns o) (settled_below budgets before offers imp)
priced_below campaigns budgets before offers imp formed k d below =
    let within : k < length offers = omega (arith, length-below budgets before offers imp) in
    let o : Offer = get_or offers k d in
    let P : Offer → Type 0 = λ x. x.reason ≡ ADMITTED → IsPriced campaigns x in
    let r : ℕ = reason_at budgets before offers k o in
    elim (cases_lt o.imp imp) [
      | inl earlier ↦
          subst P (sym (below_decided budgets before offers imp k d within earlier))
          (elim (cases_eq o.reason ADMITTED) [
            | inl admitted ↦ λ again. let p = formed.priced k d within (inr admitted) in record { campaign = p.campaign; positive = p.positive; within = p.within }
            | inr refused ↦ λ again. absurd (refused (sym (reason_of_refused budgets before offers k o refused) ∙ again))
          ])
      | inr later ↦ subst P (sym (below_as_came budgets before offers imp k d within later)) (λ admitted. formed.priced k d within (inr admitted))
    ]

pub below_all_of : (budgets : List Units) (before : Standing) (offers : List Offer) (imps imp : ℕ) → IsUnsettled imps offers → imp ≡ imps → settled_below budgets before offers imp ≡ settled_offers budgets before offers
below_all_of budgets before offers imps imp unsettled same =
    ap (settled_below budgets before offers) same ∙ below_all budgets before offers imps (λ k d below. (unsettled k d below).1)

-- the standings while one impression after another is decided
pub stands_first : (accounts : List Account) (offers : List Offer) (takes : List Take) → takes ≡ [] → standing_with accounts takes ≡ standing_at (budgets_in accounts) (standing_in accounts) offers 0
stands_first accounts offers takes none =
    let nothing : (campaign : ℕ) → standing_with accounts [] campaign ≡ standing_in accounts campaign = λ campaign. omega arith in
    ap (standing_with accounts) none ∙ ((λ i campaign. nothing campaign i) ∙ sym (standing_start (budgets_in accounts) (standing_in accounts) offers))

taken_below : (budgets : List Units) (before : Standing) (offers : List Offer) (imp : ℕ) (chosen : Option ℕ) (campaign : ℕ) → IfSome chosen (λ place. place < length offers) → taken_by (settled_below budgets before offers imp) chosen campaign ≡ taken_by offers chosen campaign
taken_below budgets before offers imp None campaign within = refl
taken_below budgets before offers imp (Some place) campaign within =
    let o : Offer = get_or offers place no_offer in
    elim (cases_lt o.imp imp) [
      | inl earlier ↦ ap (charge_for campaign) (below_decided budgets before offers imp place no_offer within earlier)
      | inr later ↦ ap (charge_for campaign) (below_as_came budgets before offers imp place no_offer within later)
    ]

chosen_within : (budgets : List Units) (standing : Standing) (offers : List Offer) (imp : ℕ) (chosen : Option ℕ) → chosen_at budgets standing offers imp ≡ chosen → IfSome chosen (λ place. place < length offers)
chosen_within budgets standing offers imp None is = tt
chosen_within budgets standing offers imp (Some place) is = (chosen_found budgets standing offers imp place no_offer is).0

pub stands_next : (accounts : List Account) (offers left : List Offer) (takes more : List Take) (imp : ℕ) → left ≡ settled_below (budgets_in accounts) (standing_in accounts) offers imp → standing_with accounts takes ≡ standing_at (budgets_in accounts) (standing_in accounts) offers imp → ((campaign : ℕ) → taken_from more campaign ≡ taken_from takes campaign + taken_by left (chosen_at (budgets_in accounts) (standing_with accounts takes) left imp) campaign) → standing_with accounts more ≡ standing_at (budgets_in accounts) (standing_in accounts) offers (imp + 1)
stands_next accounts offers left takes more imp left_is stands adds =
    let budgets : List Units = budgets_in accounts in
    let before : Standing = standing_in accounts in
    let standing : Standing = standing_at budgets before offers imp in
    let choice : Option ℕ = chosen_at budgets standing offers imp in
    let chosen : chosen_at budgets (standing_with accounts takes) left imp ≡ choice =
    ap (λ (s : Standing). chosen_at budgets s left imp) stands
    ∙ (ap (λ (xs : List Offer). chosen_at budgets standing xs imp) left_is ∙ chosen_below budgets before standing offers imp) in
    let next : imp + 1 ≡ suc imp = omega arith in
    let same : (campaign : ℕ) → standing_with accounts more campaign ≡ standing_at budgets before offers (suc imp) campaign = λ campaign.
    let takes_it : taken_by left (chosen_at budgets (standing_with accounts takes) left imp) campaign ≡ taken_by offers choice campaign =
    ap (λ (c : Option ℕ). taken_by left c campaign) chosen
    ∙ (ap (λ (xs : List Offer). taken_by xs choice campaign) left_is
    ∙ taken_below budgets before offers imp choice campaign (chosen_within budgets standing offers imp choice refl)) in
    let stood : standing_with accounts takes campaign ≡ standing campaign = ap (λ (s : Standing). s campaign) stands in
    let added : taken_from more campaign ≡ taken_from takes campaign + taken_by left (chosen_at budgets (standing_with accounts takes) left imp) campaign = adds campaign in
    ap (λ (n : ℕ). before campaign + n) (added ∙ ap (λ (n : ℕ). taken_from takes campaign + n) takes_it)
    ∙ (let sum : before campaign + (taken_from takes campaign + taken_by offers choice campaign) ≡ before campaign + taken_from takes campaign + taken_by offers choice campaign = omega arith in
    sum ∙ (ap (λ (n : ℕ). n + taken_by offers choice campaign) stood ∙ sym (standing_step budgets before offers imp campaign))) in
    (λ i campaign. same campaign i) ∙ ap (standing_at budgets before offers) (sym next)

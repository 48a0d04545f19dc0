-- The asks of a legal history are settled, each award the first of the greatest of its impression.
use Rattle.std.proofs.Common.{◌≡◌, ◌≢◌, ◌↔◌, ℕ, ◌<◌, List, ◌∷◌, ◌++◌, length, get_or, Bool, true, false, eqb, refl, sym, ap, ◌∙◌, subst, inl, inr, arith, Option, Some, None}
use Rattle.std.specs.List.{slice_get}
use Rattle.std.proofs.lemmas.Bool.{cases_eq, eq-eqb, ne_eqb}
use Rattle.std.proofs.lemmas.List.{get_or_default}
use Rattle.std.proofs.lemmas.Option.{slice_get_within, get_or_from_slice_get}
use Rattle.adx_units.specs.declared.units.Units.{Units}
use Rattle.adx_units.specs.declared.offer.Offer.{Offer}
use Rattle.adx_units.specs.declared.offer.TheConstants.{ADMITTED}
use Rattle.allocator_core.specs.Choice.{Standing, chosen_at, standing_at, fits, is_place, decided, reason_at, settled_offers}
use Rattle.allocator_core.specs.declared.reason.TheConstants.{AWARDED}
use Rattle.allocator_core.proofs.Choosing.{IsUndecidedReason, chosen_found, competes_means, reason_of_admitted, reason_of_refused}
use Rattle.allocator_core.proofs.Settled.{with_reason, length-settled, settled_at}
use Rattle.day_rules.specs.declared.ask.Ask.{Ask}
use Rattle.day_rules.specs.declared.entry.Entry.{Entry}
use Rattle.day_rules.specs.Asks.{undecided}
use Rattle.day_rules.specs.Books.{committed}
use Rattle.day_rules.specs.Terms.{Terms, budgets_after}
use Rattle.day_rules.specs.Legal.{IsLegal}
use Rattle.day_rules.specs.Laws.{StandsSettled}
use Rattle.day_rules.proofs.Histories.{legal_last}
use Rattle.day_rules.proofs.Settling.{is_undecided}

not_awarded : (does_fit : Bool) → decided false does_fit ≢ AWARDED
not_awarded true is = omega arith
not_awarded false is = omega arith

lost : (k place : ℕ) (does_fit : Bool) → k ≢ place → decided (eqb k place) does_fit ≢ AWARDED
lost k place does_fit apart is =
    not_awarded does_fit (sym (ap (λ (b : Bool). decided b does_fit) (ne_eqb k place apart)) ∙ is)

chosen_by : (chosen : Option ℕ) (place : ℕ) (does_fit : Bool) → decided (is_place chosen place) does_fit ≡ AWARDED → chosen ≡ Some place
chosen_by None place true is = absurd (omega arith)
chosen_by None place false is = absurd (omega arith)
chosen_by (Some k) place does_fit is = elim (cases_eq k place) [
  | inl same ↦ ap (λ (j : ℕ). Some j) same
  | inr apart ↦ absurd (lost k place does_fit apart is)
]

-- the reason of an offer by the choice of its impression, both ways
awarded_is_chosen : (budgets : List Units) (before : Standing) (offers : List Offer) (place : ℕ) (o : Offer) → IsUndecidedReason o.reason → reason_at budgets before offers place o ≡ AWARDED → chosen_at budgets (standing_at budgets before offers o.imp) offers o.imp ≡ Some place
awarded_is_chosen budgets before offers place o undecided is = elim (cases_eq o.reason ADMITTED) [
  | inl admitted ↦
      let standing : Standing = standing_at budgets before offers o.imp in
      chosen_by (chosen_at budgets standing offers o.imp) place (fits budgets standing o) (sym (reason_of_admitted budgets before offers place o admitted) ∙ is)
  | inr refused ↦ absurd (undecided.0 (sym (reason_of_refused budgets before offers place o refused) ∙ is))
]

chosen_is_awarded : (budgets : List Units) (before : Standing) (offers : List Offer) (place : ℕ) (o : Offer) → get_or offers place o ≡ o → chosen_at budgets (standing_at budgets before offers o.imp) offers o.imp ≡ Some place → reason_at budgets before offers place o ≡ AWARDED
chosen_is_awarded budgets before offers place o at chosen =
    let standing : Standing = standing_at budgets before offers o.imp in
    let found = chosen_found budgets standing offers o.imp place o chosen in
    let c = competes_means budgets standing o.imp (get_or offers place o) found.1 in
    let admitted : o.reason ≡ ADMITTED = ap (λ (x : Offer). x.reason) (sym at) ∙ c.admitted in
    reason_of_admitted budgets before offers place o admitted
    ∙ (ap (λ (x : Option ℕ). decided (is_place x place) (fits budgets standing o)) chosen
    ∙ ap (λ (b : Bool). decided b (fits budgets standing o)) (eq-eqb place place refl))

settled_awarded : (budgets : List Units) (before : Standing) (offers : List Offer) (place : ℕ) (o : Offer) → ((k : ℕ) (d : Offer) → k < length offers → IsUndecidedReason (get_or offers k d).reason) → slice_get (settled_offers budgets before offers) place ≡ Some o → (o.reason ≡ AWARDED) ↔ (chosen_at budgets (standing_at budgets before offers o.imp) offers o.imp ≡ Some place)
settled_awarded budgets before offers place o undecided at =
    let s : List Offer = settled_offers budgets before offers in
    let inside : place < length s = slice_get_within s place o at in
    let within : place < length offers = omega (arith, length-settled budgets before offers) in
    let was : Offer = get_or offers place o in
    let reason : ℕ = reason_at budgets before offers place was in
    let is : o ≡ with_reason was reason = sym (get_or_from_slice_get s place o o at) ∙ settled_at budgets before offers place o within in
    let same : get_or offers place was ≡ was = get_or_default offers place was o within in
    let P : Offer → Type 0 = λ x. (x.reason ≡ AWARDED) ↔ (chosen_at budgets (standing_at budgets before offers x.imp) offers x.imp ≡ Some place) in
    subst P (sym is) (awarded_is_chosen budgets before offers place was (undecided place o within), chosen_is_awarded budgets before offers place was same)

pub stands_settled : (terms : Terms) (before : List Entry) (a : Ask) (after : List Entry) → IsLegal terms (before ++ Entry.Ask a ∷ after) → StandsSettled terms before a
stands_settled terms before a after legal =
    let follows = legal_last terms before (Entry.Ask a) after legal in
    let u : Ask = undecided a in
    let is : settled_offers (budgets_after terms before) (committed before) u.offers ≡ a.offers = ap (λ (x : Ask). x.offers) follows.is_settled in
    record {
      offers = sym is;
      awarded = λ place o at. settled_awarded (budgets_after terms before) (committed before) u.offers place o (is_undecided a) (ap (λ (os : List Offer). slice_get os place) is ∙ at);
    }

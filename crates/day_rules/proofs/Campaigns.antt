-- The money of all awards is that of all campaigns, and the meters of a day stay in their range.
use Rattle.std.proofs.Common.{◌≡◌, ℕ, zero, suc, ◌+◌, ◌*◌, ◌^◌, ◌<◌, ◌≤◌, List, [], ◌∷◌, ◌++◌, length, Bool, true, false, cond, eqb, ◌&&◌, refl, sym, ap, subst, inl, inr, arith, Option, Some}
use Rattle.std.specs.List.{sum_by, range_with_len, slice_get}
use Rattle.std.proofs.lemmas.List.Elements.{All-get_or}
use Rattle.std.proofs.lemmas.List.{get_or_past}
use Rattle.adx_units.specs.declared.units.Units.{Units}
use Rattle.adx_units.specs.Money.{units}
use Rattle.std.specs.Prelude.{All}
use Rattle.campaign_book.specs.Accounts.{IsBudget}
use Rattle.std.proofs.lemmas.Bool.{cases_lt, cases_eq, eq-eqb, ne_eqb}
use Rattle.std.proofs.lemmas.List.Sums.{sum_by-cons, count_by-le-length}
use Rattle.allocator_core.proofs.Lists.{sum_by-none}
use Rattle.allocator_core.specs.Choice.{budget_at}
use Rattle.adx_units.specs.declared.price.TheConstants.{BUDGET_LIMIT}
use Rattle.notice_book.specs.declared.award.Award.{Award}
use Rattle.notice_book.specs.declared.award.End.{End}
use Rattle.notice_book.specs.declared.kind.NoticeKind.{NoticeKind}
use Rattle.notice_book.specs.Rules.{is_open, is_billed}
use Rattle.day_rules.specs.declared.entry.Entry.{Entry}
use Rattle.day_rules.specs.Books.{charge_where, awards_of, reserved, billed, committed}
use Rattle.day_rules.specs.Entries.{BudgetChange, entry_of_change}
use Rattle.day_rules.specs.Terms.{Terms, AreTerms, budgets_after}
use Rattle.day_rules.specs.Legal.{IsLegal, MayFollow}
use Rattle.day_rules.specs.DayState.{IsDay}
use Rattle.day_rules.proofs.Budgets.{budget_other, budget_set, budgets_kept, budgets_none}
use Rattle.day_rules.proofs.Histories.{legal_induction}
use Rattle.day_rules.proofs.Lists.{sum_by-always, sum_by-both}
use Rattle.day_rules.proofs.Selling.{award_campaign}
use Rattle.day_rules.proofs.Counting.{day_awards, day_asks, day_entries}
use Rattle.day_rules.proofs.Within.{within_budget}
use Rattle.day_rules.specs.DayMeters.{charge_if, money_where, is_notice, is_expired}
use Rattle.day_rules.specs.DayLaws.{over_campaigns, AreDayMeters}
use Rattle.day_rules.proofs.Steps.{meters_are}

abbrev own : ℕ → Bool → ℕ → ℕ → ℕ
own x b v c = cond (eqb x c && b) v 0

own_other : (b : Bool) (v x c : ℕ) → eqb x c ≡ false → own x b v c ≡ 0
own_other b v x c apart = ap (λ (t : Bool). cond (t && b) v 0) apart

own_same : (b : Bool) (v x c : ℕ) → eqb x c ≡ true → own x b v c ≡ cond b v 0
own_same b v x c same = ap (λ (t : Bool). cond (t && b) v 0) same

own_above : (b : Bool) (v x low n : ℕ) → x < low → sum_by (own x b v) (range_with_len low n) ≡ 0
own_above b v x low zero above = refl
own_above b v x low (suc n) above =
    let here = own_other b v x low (ne_eqb x low (λ same. absurd (omega arith))) in
    omega (arith, here, sum_by-cons (own x b v) low (range_with_len (low + 1) n), own_above b v x (low + 1) n (omega arith))

own_once : (b : Bool) (v x low n : ℕ) → low ≤ x → x < low + n → sum_by (own x b v) (range_with_len low n) ≡ cond b v 0
own_once b v x low zero le lt = absurd (omega arith)
own_once b v x low (suc n) le lt =
    let parts = sum_by-cons (own x b v) low (range_with_len (low + 1) n) in
    elim (cases_eq x low) [
      | inl same ↦ omega (arith, parts, own_same b v x low (eq-eqb x low same), own_above b v x (low + 1) n (omega arith))
      | inr apart ↦ omega (arith, parts, own_other b v x low (ne_eqb x low apart), own_once b v x (low + 1) n (omega arith) (omega arith))
    ]

-- the money of awards of these campaigns, campaign by campaign
by_campaign : (test : Option End → Bool) (n : ℕ) (ws : List Award) → ((k : ℕ) (w : Award) → slice_get ws k ≡ Some w → w.campaign < n)
    → money_where test ws ≡ sum_by (λ c. sum_by (charge_where test c) ws) (range_with_len 0 n)
by_campaign test n [] known = sym (sum_by-none (λ (c : ℕ). sum_by (charge_where test c) []) (range_with_len 0 n) (λ _. refl))
by_campaign test n (w ∷ ws) known =
    let all : List ℕ = range_with_len 0 n in
    let rest : ℕ → ℕ = λ c. sum_by (charge_where test c) ws in
    let here : ℕ → ℕ = λ c. charge_where test c w in
    let split : sum_by (λ c. sum_by (charge_where test c) (w ∷ ws)) all ≡ sum_by (λ c. here c + rest c) all =
    sum_by-always (λ c. sum_by (charge_where test c) (w ∷ ws)) (λ c. here c + rest c) all (λ c. sum_by-cons (charge_where test c) w ws) in
    let parts : sum_by (λ c. here c + rest c) all ≡ sum_by here all + sum_by rest all = sum_by-both here rest all in
    let once : sum_by here all ≡ charge_if test w = own_once (test w.end) w.charge.0 w.campaign 0 n (omega arith) (let lt = known 0 w refl in omega arith) in
    let more : money_where test ws ≡ sum_by rest all = by_campaign test n ws (λ k v at. known (suc k) v at) in
    omega (arith, split, parts, once, more, sum_by-cons (charge_if test) w ws)

day_money : (test : Option End → Bool) (terms : Terms) (history : List Entry) → IsLegal terms history
    → money_where test (awards_of history) ≡ sum_by (λ c. sum_by (charge_where test c) (awards_of history)) (range_with_len 0 (length terms.budgets))
day_money test terms history legal = by_campaign test (length terms.budgets) (awards_of history) (λ k w at. award_campaign terms history k w legal at)

-- a sum of numbers that are each at most another
sum_most : (f : ℕ → ℕ) (most low n : ℕ) → ((c : ℕ) → f c ≤ most) → sum_by f (range_with_len low n) ≤ n * most
sum_most f most low zero below = omega arith
sum_most f most low (suc n) below =
    let h = below low in
    grind (arith, sum_by-cons f low (range_with_len (low + 1) n), sum_most f most (low + 1) n below)

budget_small : (budgets : List Units) (c : ℕ) → All IsBudget budgets → budget_at budgets c ≤ BUDGET_LIMIT
budget_small budgets c h = elim (cases_lt c (length budgets)) [
  | inl below ↦ (All-get_or IsBudget budgets c (units 0) below h).1
  | inr past ↦ (let none : budget_at budgets c ≡ 0 = ap (λ (u : Units). u.0) (get_or_past budgets c (units 0) past) in omega arith)
]

bounded : (campaigns money : ℕ) → campaigns ≤ 1024 → money ≤ campaigns * 1000000000000000 → money < 2 ^ 64
bounded campaigns money few at_most = omega arith

-- each campaign's budget is a budget after each history
abbrev AreSmall : List Units → Type 0
AreSmall budgets = (campaign : ℕ) → budget_at budgets campaign ≤ BUDGET_LIMIT

small_push : (terms : Terms) (history : List Entry) (e : Entry) → MayFollow terms history e → AreSmall (budgets_after terms history) → AreSmall (budgets_after terms (history ++ e ∷ []))
small_push terms history (Entry.Ask a) follows small = subst AreSmall (sym (budgets_kept terms history (Entry.Ask a) refl)) small
small_push terms history (Entry.Win n) follows small = subst AreSmall (sym (budgets_kept terms history (Entry.Win n) refl)) small
small_push terms history (Entry.Bill n) follows small = subst AreSmall (sym (budgets_kept terms history (Entry.Bill n) refl)) small
small_push terms history (Entry.Loss n) follows small = subst AreSmall (sym (budgets_kept terms history (Entry.Loss n) refl)) small
small_push terms history (Entry.Expire now) follows small = subst AreSmall (sym (budgets_kept terms history (Entry.Expire now) refl)) small
small_push terms history (Entry.Budget campaign change budget) follows small = λ c.
    let x : BudgetChange = record { campaign = campaign; change = change; budget = budget } in
    let before = small c in
    elim (cases_eq c campaign) [
      | inl own ↦
          let P : ℕ → Type 0 = λ n. budget_at (budgets_after terms (history ++ entry_of_change x ∷ [])) n ≤ BUDGET_LIMIT in
          let set = budget_set terms history x follows.known in
          let limit = follows.budget.1 in
          let own_small : P campaign = omega arith in
          let here : P c = subst P (sym own) own_small in
          omega arith
      | inr apart ↦ (let other = budget_other terms history x c apart in omega arith)
    ]

budgets_small : (terms : Terms) (history : List Entry) → AreTerms terms → IsLegal terms history → AreSmall (budgets_after terms history)
budgets_small terms history ok legal =
    legal_induction terms (λ h. AreSmall (budgets_after terms h))
    (subst AreSmall (sym (budgets_none terms)) (λ c. budget_small terms.budgets c ok.budgets))
    (λ h e lawful follows small. small_push terms h e follows small)
    history legal

day_range : (terms : Terms) (history : List Entry) → IsDay terms history → (money : ℕ → ℕ) → ((c : ℕ) → money c ≤ committed history c) → over_campaigns terms money < 2 ^ 64
day_range terms history day money part =
    let below : (c : ℕ) → money c ≤ BUDGET_LIMIT = λ c.
    let a = part c in let b = within_budget terms history day.legal c in let d = budgets_small terms history day.terms_ok day.legal c in omega arith in
    bounded (length terms.budgets) (over_campaigns terms money) day.terms_ok.few_budgets (sum_most money BUDGET_LIMIT 0 (length terms.budgets) below)

-- the meters of a day are those of its campaigns, and in their range
pub day_meters : (terms : Terms) (history : List Entry) → IsDay terms history → AreDayMeters terms history
day_meters terms history day =
    let long = day_entries terms history day in
    let few = day_awards terms history day in
    let open_money = day_money is_open terms history day.legal in
    let billed_money = day_money is_billed terms history day.legal in
    record {
      folded = meters_are terms history day.legal;
      reserved = open_money;
      billed = billed_money;
      in_range = record {
        entries = omega (arith, long);
        asks = omega (arith, day_asks terms history day);
        awards = omega (arith, few);
        wins = omega (arith, long, count_by-le-length (is_notice NoticeKind.Win) history);
        bills = omega (arith, long, count_by-le-length (is_notice NoticeKind.Bill) history);
        losses = omega (arith, long, count_by-le-length (is_notice NoticeKind.Loss) history);
        expired = omega (arith, few, count_by-le-length (λ (w : Award). is_expired w.end) (awards_of history));
        reserved = omega (arith, open_money, day_range terms history day (reserved history) (λ c. omega arith));
        billed = omega (arith, billed_money, day_range terms history day (billed history) (λ c. omega arith));
      };
    }

-- The campaigns of a record, entry by entry of a history.
use Rattle.std.proofs.Common.{◌≡◌, ℕ, zero, suc, ◌+◌, ◌<◌, ◌≤◌, ◌^◌, List, [], ◌∷◌, ◌++◌, map, length, get_or, set, take, Bool, true, false, cond, eqb, refl, sym, ap, ap₂, ◌∙◌, subst, arith, Option, Some, None, is_some, unwrap_or, option_map}
use Rattle.std.specs.Prelude.{option_and_then}
use Rattle.std.specs.List.{All, cons_option, enumerate_from, filter_map, last_or, list_all}
use Rattle.std.specs.Option.{ForSome, option_map_or, option_or}
use Rattle.std.proofs.lemmas.Bool.{and_parts, eq-eqb, eqb-true}
use Rattle.std.proofs.lemmas.List.{length-map}
use Rattle.std.proofs.lemmas.List.Elements.{All-map, All-set, filter_map-append}
use Rattle.std.proofs.lemmas.List.FromFn.{length-enumerate_from}
use Rattle.std.proofs.lemmas.List.Sums.{sum_by-append, sum_by-le-sum_by, sum_by_push}
use Rattle.adx_units.specs.Changed.{changed_at}
use Rattle.adx_units.specs.declared.units.Units.{Units}
use Rattle.adx_units.proofs.Changed.{changed_at_is}
use Rattle.campaign_book.specs.Accounts.{IsBudget}
use Rattle.deal_floor.specs.declared.campaign.Campaign.{Campaign}
use Rattle.day_rules.specs.declared.entry.Entry.{Entry}
use Rattle.day_rules.specs.declared.limits.DayLimits.{DayLimits}
use Rattle.day_rules.specs.Changes.{change_count}
use Rattle.day_rules.specs.Entries.{BudgetChange, budgeted, change_of}
use Rattle.day_rules.specs.Legal.{IsLegal, MayFollow}
use Rattle.day_rules.specs.Terms.{Terms, budget_after, budget_by, budgets_after, terms_of}
use Rattle.day_rules.proofs.Budgets.{budget_with, budgets_kept, budgets_none}
use Rattle.day_rules.proofs.Histories.{legal_front, legal_induction}
use Rattle.bid_record.specs.declared.rows.CampaignRow.{CampaignRow}
use Rattle.bid_record.specs.Records.{IsCampaign}
use Rattle.bid_record.proofs.CampaignLines.{of_none, of_some}
use Rattle.day_close.specs.Choosing.{is_unchanged, no_campaign}
use Rattle.served_record.specs.Days.{budgets_of, campaign_row, campaign_rows, changes_budget, changes_in}
use Rattle.served_record.specs.Steps.{MayChange, MayCome, opened_row, opened_rows, rebudgeted, rows_after}

-- there are as many campaigns at each end
rows_long : (history : List Entry) (n : ℕ) (cs : List Campaign) → length (map (campaign_row history) (enumerate_from n cs)) ≡ length cs
rows_long history n cs = length-map (enumerate_from n cs) (campaign_row history) ∙ length-enumerate_from n cs

pub rows_length : (cs : List Campaign) (history : List Entry) → length (campaign_rows cs history) ≡ length cs
rows_length cs history = rows_long history 0 cs

-- no entry, and no change
opened_from : (n : ℕ) (cs : List Campaign) → map (campaign_row []) (enumerate_from n cs) ≡ opened_rows cs
opened_from n [] = refl
opened_from n (c ∷ cs) = ap (λ (t : List CampaignRow). opened_row c ∷ t) (opened_from (n + 1) cs)

pub rows_opened : (cs : List Campaign) → campaign_rows cs [] ≡ opened_rows cs
rows_opened cs = opened_from 0 cs

last_more : (xs : List Units) (o before : Option Units) → last_or before (xs ++ cons_option o []) ≡ option_or o (last_or before xs)
last_more [] None before = refl
last_more [] (Some y) before = refl
last_more (x ∷ xs) o before = last_more xs o (Some x)

given_or : (b : Bool) (budget opened : Units) (before : Option Units) → unwrap_or (option_or (cond b (Some budget) None) before) opened ≡ cond b budget (unwrap_or before opened)
given_or true budget opened before = refl
given_or false budget opened before = refl

given_by : (o : Option BudgetChange) (campaign : ℕ) (opened : Units) (before : Option Units) → unwrap_or (option_or (option_and_then (λ (x : BudgetChange). cond (eqb campaign x.campaign) (Some x.budget) None) o) before) opened ≡ budget_with o (campaign, unwrap_or before opened)
given_by None campaign opened before = refl
given_by (Some x) campaign opened before = given_or (eqb campaign x.campaign) x.budget opened before

-- a campaign's budget after an entry more
budget_push : (history : List Entry) (e : Entry) (campaign : ℕ) (opened : Units) → budget_after (history ++ e ∷ []) (campaign, opened) ≡ budget_with (budgeted e) (campaign, budget_after history (campaign, opened))
budget_push history e campaign opened =
    ap (λ (bs : List Units). unwrap_or (last_or None bs) opened) (filter_map-append (budget_by campaign) history (e ∷ []))
    ∙ (ap (λ (o : Option Units). unwrap_or o opened) (last_more (filter_map (budget_by campaign) history) (budget_by campaign e) None)
    ∙ given_by (budgeted e) campaign opened (last_or None (filter_map (budget_by campaign) history)))

-- 1 for a change of the campaign's budget
abbrev made_by : ℕ → Option BudgetChange → ℕ
made_by campaign o = cond (option_map_or (λ x. eqb campaign x.campaign) o false) 1 0

changes_push : (history : List Entry) (e : Entry) (campaign : ℕ) → changes_in (history ++ e ∷ []) campaign ≡ changes_in history campaign + made_by campaign (budgeted e)
changes_push history e campaign = sum_by_push (λ x. cond (changes_budget campaign x) 1 0) history e

-- a campaign after a change, if there is one
abbrev row_with : Option BudgetChange → ℕ × CampaignRow → CampaignRow
row_with None p = p.1
row_with (Some x) p = cond (eqb p.0 x.campaign) (rebudgeted x.budget p.1) p.1

abbrev row_of : Campaign → Units → ℕ → CampaignRow
row_of c budget changes = record { seat = c.seat; cid = c.cid; budget = budget; changes = Some changes }

row_here : (c : Campaign) (budget given : Units) (n : ℕ) (b : Bool) → row_of c (cond b given budget) (n + cond b 1 0) ≡ cond b (rebudgeted given (row_of c budget n)) (row_of c budget n)
row_here c budget given n true = refl
row_here c budget given n false = ap (row_of c budget) (omega arith)

row_by_change : (c : Campaign) (place : ℕ) (budget : Units) (n : ℕ) (o : Option BudgetChange) → row_of c (budget_with o (place, budget)) (n + made_by place o) ≡ row_with o (place, row_of c budget n)
row_by_change c place budget n None = ap (row_of c budget) (omega arith)
row_by_change c place budget n (Some x) = row_here c budget x.budget n (eqb place x.campaign)

row_push : (history : List Entry) (e : Entry) (place : ℕ) (c : Campaign) → campaign_row (history ++ e ∷ []) (place, c) ≡ row_with (budgeted e) (place, campaign_row history (place, c))
row_push history e place c =
    ap₂ (row_of c) (budget_push history e place c.budget) (changes_push history e place)
    ∙ row_by_change c place (budget_after history (place, c.budget)) (changes_in history place) (budgeted e)

rows_push : (history : List Entry) (e : Entry) (n : ℕ) (cs : List Campaign) → map (campaign_row (history ++ e ∷ [])) (enumerate_from n cs) ≡ map (row_with (budgeted e)) (enumerate_from n (map (campaign_row history) (enumerate_from n cs)))
rows_push history e n [] = refl
rows_push history e n (c ∷ cs) = ap₂ (λ (r : CampaignRow) (rs : List CampaignRow). r ∷ rs) (row_push history e n c) (rows_push history e (n + 1) cs)

same_rows : (n : ℕ) (rows : List CampaignRow) → map (row_with None) (enumerate_from n rows) ≡ rows
same_rows n [] = refl
same_rows n (r ∷ rs) = ap (λ (t : List CampaignRow). r ∷ t) (same_rows (n + 1) rs)

-- the campaigns after an entry more
pub rows_step : (cs : List Campaign) (history : List Entry) (e : Entry) → campaign_rows cs (history ++ e ∷ []) ≡ rows_after e (campaign_rows cs history)
rows_step cs history (Entry.Ask a) = rows_push history (Entry.Ask a) 0 cs ∙ same_rows 0 (campaign_rows cs history)
rows_step cs history (Entry.Win n) = rows_push history (Entry.Win n) 0 cs ∙ same_rows 0 (campaign_rows cs history)
rows_step cs history (Entry.Bill n) = rows_push history (Entry.Bill n) 0 cs ∙ same_rows 0 (campaign_rows cs history)
rows_step cs history (Entry.Loss n) = rows_push history (Entry.Loss n) 0 cs ∙ same_rows 0 (campaign_rows cs history)
rows_step cs history (Entry.Expire now) = rows_push history (Entry.Expire now) 0 cs ∙ same_rows 0 (campaign_rows cs history)
rows_step cs history (Entry.Budget campaign change budget) = rows_push history (Entry.Budget campaign change budget) 0 cs

-- a campaign has at most all changes
made_few : (campaign : ℕ) (o : Option BudgetChange) → made_by campaign o ≤ cond (is_some o) 1 0
made_few campaign None = omega arith
made_few campaign (Some x) = by (eqb campaign x.campaign)
  where
    by : (b : Bool) → cond b 1 0 ≤ 1
    by true = omega arith
    by false = omega arith

changes_few : (history : List Entry) (campaign : ℕ) → changes_in history campaign ≤ change_count history
changes_few history campaign =
    sum_by-le-sum_by (λ e. cond (changes_budget campaign e) 1 0) (λ e. cond (is_some (budgeted e)) 1 0) history (λ e. made_few campaign (budgeted e))

-- the entry may come after the campaigns so far
pub may_come : (cs : List Campaign) (limits : DayLimits) (history : List Entry) (e : Entry) → MayFollow (terms_of (budgets_of cs) limits) history e → MayCome (campaign_rows cs history) e
may_come cs limits history (Entry.Ask a) follows = tt
may_come cs limits history (Entry.Win n) follows = tt
may_come cs limits history (Entry.Bill n) follows = tt
may_come cs limits history (Entry.Loss n) follows = tt
may_come cs limits history (Entry.Expire now) follows = tt
may_come cs limits history (Entry.Budget campaign change budget) follows = record {
  known = omega (arith, follows.known, rows_length cs history, length-map cs (λ (c : Campaign). c.budget));
  budget_is = follows.budget;
  few = All-map MayChange (campaign_row history) (enumerate_from 0 cs) (λ k d below.
      let p : ℕ × Campaign = get_or (enumerate_from 0 cs) k d in
      of_some (λ (n : ℕ). n + 1 < 2 ^ 32) (changes_in history p.0) (omega (arith, follows.few, changes_few history p.0)));
}

-- one campaign changed in its place
pub rebudgeted_at : (rows : List CampaignRow) (campaign : ℕ) (old row : CampaignRow) (budget : Units) → old ≡ get_or rows campaign old → row ≡ rebudgeted budget old → set rows campaign row ≡ changed_at (rebudgeted budget) campaign rows
rebudgeted_at rows campaign old row budget at is =
    ap (set rows campaign) (is ∙ ap (rebudgeted budget) at) ∙ sym (changed_at_is (rebudgeted budget) campaign rows old)

-- a change keeps a campaign's ranges
rebudget_sound : (budget : Units) (row : CampaignRow) → IsBudget budget → MayChange row → IsCampaign 2 row → IsCampaign 2 (rebudgeted budget row)
rebudget_sound budget row within may sound = record {
  seat = sound.seat;
  cid = sound.cid;
  positive = within.0;
  within = within.1;
  changes = by row.changes sound.changes;
  few_changes = few row.changes may;
}
  where
    by : (o : Option ℕ) → is_some o ≡ true → is_some (option_map (λ (n : ℕ). n + 1) o) ≡ true
    by None h = h
    by (Some n) h = refl

    few : (o : Option ℕ) → ForSome o (λ n. n + 1 < 2 ^ 32) → ForSome (option_map (λ (n : ℕ). n + 1) o) (λ n. n < 2 ^ 32)
    few None h = of_none (λ (n : ℕ). n < 2 ^ 32)
    few (Some n) h = of_some (λ (n : ℕ). n < 2 ^ 32) (n + 1) (h n refl)

pub after_sound : (rows : List CampaignRow) (e : Entry) → MayCome rows e → All (IsCampaign 2) rows → All (IsCampaign 2) (rows_after e rows)
after_sound rows (Entry.Ask a) may sound = sound
after_sound rows (Entry.Win n) may sound = sound
after_sound rows (Entry.Bill n) may sound = sound
after_sound rows (Entry.Loss n) may sound = sound
after_sound rows (Entry.Expire now) may sound = sound
after_sound rows (Entry.Budget campaign change budget) may sound =
    let row : CampaignRow = get_or rows campaign no_campaign in
    let one : IsCampaign 2 (rebudgeted budget row) =
    rebudget_sound budget row may.budget_is (may.few campaign no_campaign may.known) (sound campaign no_campaign may.known) in
    subst (All (IsCampaign 2)) (sym (changed_at_is (rebudgeted budget) campaign rows no_campaign))
    (All-set (IsCampaign 2) rows campaign (rebudgeted budget row) one sound)

-- one entry more of a legal history
pub rows_more : (cs : List Campaign) (history : List Entry) (i : ℕ) (e : Entry) (rows next : List CampaignRow) → take (i + 1) history ≡ take i history ++ e ∷ [] → rows ≡ campaign_rows cs (take i history) → next ≡ rows_after e rows → next ≡ campaign_rows cs (take (i + 1) history)
rows_more cs history i e rows next more is after =
    after ∙ (ap (rows_after e) is ∙ (sym (rows_step cs (take i history) e) ∙ ap (campaign_rows cs) (sym more)))

-- the budgets of campaigns
abbrev pub row_budgets : List CampaignRow → List Units
row_budgets rows = map (λ (r : CampaignRow). r.budget) rows

budgets_from : (history : List Entry) (n : ℕ) (cs : List Campaign) → row_budgets (map (campaign_row history) (enumerate_from n cs)) ≡ map (budget_after history) (enumerate_from n (budgets_of cs))
budgets_from history n [] = refl
budgets_from history n (c ∷ cs) = ap (λ (t : List Units). budget_after history (n, c.budget) ∷ t) (budgets_from history (n + 1) cs)

-- those of a record are the day's at the end of the history
pub budgets_at_end : (cs : List Campaign) (limits : DayLimits) (history : List Entry) → row_budgets (campaign_rows cs history) ≡ budgets_after (terms_of (budgets_of cs) limits) history
unfolding budgets_after
budgets_at_end cs limits history = budgets_from history 0 cs

-- no change of a campaign with a lower place
abbrev IsUnchanged : ℕ → List Entry → Type 0
IsUnchanged campaigns history = (campaign : ℕ) → campaign < campaigns → changes_in history campaign ≡ 0

unchanged_push : (campaigns : ℕ) (history : List Entry) (e : Entry) → IsUnchanged campaigns (history ++ e ∷ []) → IsUnchanged campaigns history
unchanged_push campaigns history e none campaign below = omega (arith, none campaign below, changes_push history e campaign)

-- so the entry makes none, and the budgets stay
budgets_stay : (terms : Terms) (history : List Entry) (e : Entry) → MayFollow terms history e → IsUnchanged (length terms.budgets) (history ++ e ∷ []) → budgets_after terms (history ++ e ∷ []) ≡ budgets_after terms history
budgets_stay terms history (Entry.Ask a) follows none = budgets_kept terms history (Entry.Ask a) refl
budgets_stay terms history (Entry.Win n) follows none = budgets_kept terms history (Entry.Win n) refl
budgets_stay terms history (Entry.Bill n) follows none = budgets_kept terms history (Entry.Bill n) refl
budgets_stay terms history (Entry.Loss n) follows none = budgets_kept terms history (Entry.Loss n) refl
budgets_stay terms history (Entry.Expire now) follows none = budgets_kept terms history (Entry.Expire now) refl
budgets_stay terms history (Entry.Budget campaign change budget) follows none =
    let one : made_by campaign (Some (change_of campaign change budget)) ≡ 1 = ap (λ (b : Bool). cond b 1 0) (eq-eqb campaign campaign refl) in
    absurd (omega (arith, one, none campaign follows.known, changes_push history (Entry.Budget campaign change budget) campaign))

unchanged_budgets : (terms : Terms) (history : List Entry) → IsLegal terms history → IsUnchanged (length terms.budgets) history → budgets_after terms history ≡ terms.budgets
unchanged_budgets terms history legal =
    legal_induction terms (λ h. IsUnchanged (length terms.budgets) h → budgets_after terms h ≡ terms.budgets) (λ none. budgets_none terms)
    (λ h e before follows rest none. budgets_stay terms h e follows none ∙ rest (unchanged_push (length terms.budgets) h e none)) history legal

unchanged_front : (campaigns : ℕ) (front rest : List Entry) → IsUnchanged campaigns (front ++ rest) → IsUnchanged campaigns front
unchanged_front campaigns front rest none campaign below =
    omega (arith, none campaign below, sum_by-append (λ e. cond (changes_budget campaign e) 1 0) front rest)

-- what the rows say
no_changes : (n : ℕ) → is_unchanged (Some n) ≡ true → n ≡ 0
no_changes n h = eqb-true n 0 h

told_from : (history : List Entry) (n : ℕ) (cs : List Campaign) → list_all (λ (r : CampaignRow). is_unchanged r.changes) (map (campaign_row history) (enumerate_from n cs)) ≡ true → (k : ℕ) → k < length cs → changes_in history (n + k) ≡ 0
told_from history n [] told k below = absurd (omega arith)
told_from history n (c ∷ cs) told zero below =
    let parts = and_parts (is_unchanged (Some (changes_in history n))) (list_all (λ (r : CampaignRow). is_unchanged r.changes) (map (campaign_row history) (enumerate_from (n + 1) cs))) told in
    let same : n + zero ≡ n = omega arith in
    ap (λ (k : ℕ). changes_in history k) same ∙ no_changes (changes_in history n) parts.0
told_from history n (c ∷ cs) told (suc k) below =
    let parts = and_parts (is_unchanged (Some (changes_in history n))) (list_all (λ (r : CampaignRow). is_unchanged r.changes) (map (campaign_row history) (enumerate_from (n + 1) cs))) told in
    let same : n + suc k ≡ n + 1 + k = omega arith in
    ap (λ (m : ℕ). changes_in history m) same ∙ told_from history (n + 1) cs parts.1 k (omega arith)

-- where no row says a change, the day has the record's budgets at each front of its history
pub fronts_stay : (cs : List Campaign) (limits : DayLimits) (front rest : List Entry) → IsLegal (terms_of (budgets_of cs) limits) (front ++ rest) → list_all (λ (r : CampaignRow). is_unchanged r.changes) (campaign_rows cs (front ++ rest)) ≡ true → budgets_after (terms_of (budgets_of cs) limits) front ≡ row_budgets (campaign_rows cs (front ++ rest))
fronts_stay cs limits front rest legal told =
    let terms : Terms = terms_of (budgets_of cs) limits in
    let long : length terms.budgets ≡ length cs = length-map cs (λ (c : Campaign). c.budget) in
    let all : IsUnchanged (length terms.budgets) (front ++ rest) = λ campaign below.
    let same : campaign ≡ 0 + campaign = omega arith in
    ap (λ (k : ℕ). changes_in (front ++ rest) k) same ∙ told_from (front ++ rest) 0 cs told campaign (omega (arith, below, long)) in
    unchanged_budgets terms front (legal_front terms front rest legal) (unchanged_front (length terms.budgets) front rest all)
    ∙ (sym (unchanged_budgets terms (front ++ rest) legal all) ∙ sym (budgets_at_end cs limits (front ++ rest)))

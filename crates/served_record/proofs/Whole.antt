-- The rows of a whole history: what a record says of it, and that it may be in a record.
use Rattle.std.proofs.Common.{◌≡◌, ℕ, zero, suc, ◌<◌, ◌≤◌, List, [], ◌∷◌, map, length, get_or, refl, sym, ap, ap₂, ◌∙◌, subst, arith, min, Some}
use Rattle.std.specs.List.{All, enumerate_from, slice_get, sum_by}
use Rattle.std.proofs.lemmas.List.{length-map}
use Rattle.std.proofs.lemmas.List.Elements.{All-weaker}
use Rattle.adx_units.specs.Money.{units}
use Rattle.adx_units.specs.declared.units.Units.{Units}
use Rattle.notice_book.specs.declared.award.Award.{Award}
use Rattle.day_rules.specs.declared.ask.Ask.{Ask}
use Rattle.day_rules.specs.declared.entry.Entry.{Entry}
use Rattle.day_rules.specs.Books.{awards_of, committed}
use Rattle.day_rules.specs.DayState.{IsDay}
use Rattle.allocator_core.specs.Choice.{budget_at}
use Rattle.day_rules.specs.Terms.{Terms, budgets_after, terms_of}
use Rattle.day_rules.proofs.Counting.{day_asks}
use Rattle.day_rules.proofs.Within.{held_sum, within_budget}
use Rattle.deal_floor.specs.declared.campaign.Campaign.{Campaign}
use Rattle.bid_record.specs.declared.record.Record.{Record}
use Rattle.bid_record.specs.declared.rows.CampaignRow.{CampaignRow}
use Rattle.bid_record.specs.declared.rows.ImpRow.{ImpRow}
use Rattle.bid_record.specs.Records.{IsImp, IsSound}
use Rattle.bid_record.proofs.CampaignLines.{of_none, of_some}
use Rattle.dual_cert.specs.Assignments.{Assignment, Impression, assigned, earned, impressions_of}
use Rattle.day_close.specs.Closing.{money_in}
use Rattle.served_record.specs.Days.{IsHeading, IsHistoryOf, budgets_of, campaign_rows}
use Rattle.served_record.specs.Served.{IsRecordOf, chosen_of, each_in, earned_in, end_told, ends_of, impression_of, impressions_in, name_of}
use Rattle.served_record.specs.Steps.{AsksFew, IsNamed, rows_in}
use Rattle.served_record.proofs.Asked.{AskIsSettled, all_settled}
use Rattle.served_record.proofs.Awards.{awards_charge}
use Rattle.served_record.proofs.Campaigns.{budgets_at_end, row_budgets, rows_length}
use Rattle.served_record.proofs.Lists.{all_three}
use Rattle.served_record.proofs.RowLists.{IsFilled, all_filled, few_rows, mapped, told_in}
use Rattle.served_record.proofs.Told.{IsEnded, Told, told_ended, told_ends, told_money}

entry_few : (campaigns : ℕ) (e : Entry) → AskIsSettled campaigns e → AsksFew e
entry_few campaigns (Entry.Ask a) s = of_some (λ (a : Ask). length a.offers ≤ 1024) a s.formed.few_offers
entry_few campaigns (Entry.Win n) s = of_none (λ (a : Ask). length a.offers ≤ 1024)
entry_few campaigns (Entry.Bill n) s = of_none (λ (a : Ask). length a.offers ≤ 1024)
entry_few campaigns (Entry.Loss n) s = of_none (λ (a : Ask). length a.offers ≤ 1024)
entry_few campaigns (Entry.Expire now) s = of_none (λ (a : Ask). length a.offers ≤ 1024)
entry_few campaigns (Entry.Budget k change budget) s = of_none (λ (a : Ask). length a.offers ≤ 1024)

-- each ask of the history has few offers
pub all_few : (campaigns : List Campaign) (history : List Entry) → IsHistoryOf campaigns history → All AsksFew history
all_few campaigns history h =
    let terms = terms_of (budgets_of campaigns) h.limits in
    All-weaker (AskIsSettled (length terms.budgets)) AsksFew (entry_few (length terms.budgets)) history (all_settled terms history h.is_day.legal)

-- the rows' chosen offers are the history's awards, one after another
pub all_told : (campaigns : List Campaign) (history : List Entry) → IsHistoryOf campaigns history → Told (rows_in (awards_of history) 0 history) (awards_of history)
all_told campaigns history h =
    told_in (awards_of history) 0 history (awards_of history) (awards_charge (terms_of (budgets_of campaigns) h.limits) history h.is_day.legal)
    (λ i w is. subst (λ (k : ℕ). slice_get (awards_of history) k ≡ Some w) (omega arith) is)

-- what the rows say of the history
pub record AreRowsOf (history : List Entry) (rows : List ImpRow) : Type 0 where
  pub names : map (λ (row : ImpRow). row.name) rows ≡ each_in name_of history
  pub impressions_are : impressions_of rows ≡ impressions_in history
  pub chosen : map (λ (row : ImpRow). row.chosen) rows ≡ each_in chosen_of history
  pub ends : ends_of rows ≡ map (λ (w : Award). Some (end_told w.end)) (awards_of history)
  pub money : (campaign : ℕ) → money_in rows campaign ≡ committed history campaign

pub rows_are : (campaigns : List Campaign) (history : List Entry) (rows : List ImpRow) → IsHistoryOf campaigns history → rows ≡ rows_in (awards_of history) 0 history → AreRowsOf history rows
rows_are campaigns history rows h is =
    let ws : List Award = awards_of history in
    let own : List ImpRow = rows_in ws 0 history in
    let told = all_told campaigns history h in
    subst (AreRowsOf history) (sym is) (record {
      names = mapped (λ (row : ImpRow). row.name) name_of ws (λ n a imp. refl) 0 history;
      impressions_are = mapped (λ (row : ImpRow). row.offers) impression_of ws (λ n a imp. refl) 0 history;
      chosen = mapped (λ (row : ImpRow). row.chosen) chosen_of ws (λ n a imp. refl) 0 history;
      ends = told_ends own ws told;
      money = λ campaign. told_money campaign own ws told ∙ sym (held_sum ws campaign);
    })

row_sound : (campaigns : ℕ) (row : ImpRow) → IsFilled campaigns row → IsEnded row → IsNamed row → IsImp 2 campaigns row
row_sound campaigns row f e m = record {
  name = f.named;
  named = m;
  few_offers = f.few_offers;
  charges = f.charges;
  chosen = f.chosen;
  ended = e;
}

-- the rows may be in a record of the day
pub rows_sound : (day : List ℕ) (campaigns : List Campaign) (cs : List CampaignRow) (history : List Entry) (rows : List ImpRow) → IsHeading day cs → cs ≡ campaign_rows campaigns history → IsHistoryOf campaigns history → rows ≡ rows_in (awards_of history) 0 history → All IsNamed rows → IsSound 2 day cs rows
rows_sound day campaigns cs history rows o own_is h is named =
    let terms = terms_of (budgets_of campaigns) h.limits in
    let ws : List Award = awards_of history in
    let own : List ImpRow = rows_in ws 0 history in
    let n : ℕ = length terms.budgets in
    let long : n ≡ length cs =
    length-map campaigns (λ (c : Campaign). c.budget) ∙ (sym (rows_length campaigns history) ∙ sym (ap (λ (t : List CampaignRow). length t) own_is)) in
    let settled = all_settled terms history h.is_day.legal in
    let each : All (IsImp 2 n) own =
    all_three (IsFilled n) IsEnded IsNamed (IsImp 2 n) own (row_sound n) (all_filled n ws 0 history settled) (told_ended own ws (all_told campaigns history h)) (subst (All IsNamed) is named) in
    record {
      known = refl;
      dated = o.dated;
      some_campaign = o.some_campaign;
      few_campaigns = o.few_campaigns;
      each_campaign = o.each_campaign;
      distinct = o.distinct;
      few_imps = omega (arith, ap (λ (t : List ImpRow). length t) is, few_rows n ws 0 history settled, day_asks terms history h.is_day);
      each_imp = subst (All (IsImp 2 (length cs))) (sym is) (subst (λ (k : ℕ). All (IsImp 2 k) own) long each);
    }

budget_of_row : (cs : List CampaignRow) (campaign : ℕ) (row : CampaignRow) → campaign < length cs → get_or (row_budgets cs) campaign (units 0) ≡ (get_or cs campaign row).budget
budget_of_row [] campaign row below = absurd (omega arith)
budget_of_row (c ∷ cs) zero row below = refl
budget_of_row (c ∷ cs) (suc campaign) row below = budget_of_row cs campaign row (omega arith)

-- so the money of the rows is within each budget
pub rows_within : (campaigns : List Campaign) (cs : List CampaignRow) (history : List Entry) (rows : List ImpRow) → cs ≡ campaign_rows campaigns history → IsHistoryOf campaigns history → rows ≡ rows_in (awards_of history) 0 history
    → (campaign : ℕ) (row : CampaignRow) → campaign < length cs → money_in rows campaign ≤ (get_or cs campaign row).budget.0
rows_within campaigns cs history rows own_is h is campaign row below =
    let terms = terms_of (budgets_of campaigns) h.limits in
    let money = (rows_are campaigns history rows h is).money campaign in
    let within = within_budget terms history h.is_day.legal campaign in
    let same : row_budgets cs ≡ budgets_after terms history = ap row_budgets own_is ∙ budgets_at_end campaigns h.limits history in
    let budget : budget_at (budgets_after terms history) campaign ≡ (get_or cs campaign row).budget.0 =
    ap (λ (bs : List Units). budget_at bs campaign) (sym same) ∙ ap (λ (u : Units). u.0) (budget_of_row cs campaign row below) in
    omega (arith, money, within, budget)

-- what an assignment earns by the record is what it earns by the history
pub earned_same : (day : List ℕ) (campaigns : List Campaign) (history : List Entry) (r : Record) (picks : Assignment) → IsRecordOf day campaigns history r → earned_in picks campaigns history ≡ earned picks r
earned_same day campaigns history r picks h =
    ap₂ (λ (cs : List CampaignRow) (imps : List Impression). sum_by (λ (p : ℕ × CampaignRow). min p.1.budget.0 (assigned picks imps p.0)) (enumerate_from 0 cs))
    (sym h.campaigns_are) (sym h.impressions_are)

-- a day's history is one of its campaigns
pub history_of : (campaigns : List Campaign) (terms : Terms) (history : List Entry) → budgets_of campaigns ≡ terms.budgets → IsDay terms history → IsHistoryOf campaigns history
history_of campaigns terms history same day = record {
  limits = terms.limits;
  is_day = subst (λ (bs : List Units). IsDay (terms_of bs terms.limits) history) (sym same) day;
}

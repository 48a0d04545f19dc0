-- The rows of a legal history in which no award was lost or expired: each was chosen by the rule, beside what the rows
-- before it took.
use Rattle.std.proofs.Common.{◌≡◌, ℕ, zero, suc, ◌+◌, ◌<◌, List, [], ◌∷◌, ◌++◌, map, length, get_or, take, true, refl, sym, ap, ◌∙◌, subst, arith}
use Rattle.std.specs.List.{list_all, range_with_len, sum_by}
use Rattle.std.proofs.lemmas.List.{append_assoc}
use Rattle.std.proofs.lemmas.List.Sums.{sum_by-cons}
use Rattle.adx_units.specs.declared.offer.Offer.{Offer}
use Rattle.adx_units.specs.declared.units.Units.{Units}
use Rattle.allocator_core.specs.Choice.{settled_offers}
use Rattle.allocator_core.proofs.Choosing.{awarded_money, charge_for, standing_start, standing_step}
use Rattle.allocator_core.proofs.Lists.{sum_by-map}
use Rattle.notice_book.specs.declared.award.Award.{Award}
use Rattle.day_rules.specs.declared.ask.Ask.{Ask}
use Rattle.day_rules.specs.declared.entry.Entry.{Entry}
use Rattle.day_rules.specs.Asks.{undecided}
use Rattle.day_rules.specs.Books.{awarded_offers, awards_of, committed, sale_of, sales_of}
use Rattle.day_rules.specs.Legal.{IsLegal}
use Rattle.day_rules.specs.Terms.{Terms, budgets_after, terms_of}
use Rattle.day_rules.proofs.Choices.{stands_settled}
use Rattle.day_rules.proofs.Histories.{legal_front, legal_last}
use Rattle.day_rules.proofs.Lists.{sum_by-always, sum_by-flat_map}
use Rattle.day_rules.proofs.Settling.{is_undecided}
use Rattle.day_rules.proofs.Within.{committed_ask, sale_charge}
use Rattle.deal_floor.specs.declared.campaign.Campaign.{Campaign}
use Rattle.bid_record.specs.declared.rows.CampaignRow.{CampaignRow}
use Rattle.bid_record.specs.declared.rows.ImpRow.{ImpRow}
use Rattle.dual_cert.specs.Assignments.{picked_charge}
use Rattle.day_close.specs.Choosing.{choice_of, is_unchanged, keeps_award, taken_in}
use Rattle.served_record.specs.Days.{IsHistoryOf, budgets_of, campaign_rows}
use Rattle.served_record.specs.Served.{chosen_of, impression_of}
use Rattle.served_record.specs.Steps.{imps_of, row_by, rows_by, rows_for, rows_in, sold_by, sold_for}
use Rattle.served_record.proofs.Asked.{SellsOnce, sells_once}
use Rattle.served_record.proofs.Campaigns.{fronts_stay, row_budgets}
use Rattle.served_record.proofs.Whole.{all_told}
use Rattle.served_record.proofs.KeptAwards.{gone_front, gone_in, moves_none, told_kept}
use Rattle.served_record.proofs.RowsFrom.{ChosenFrom, chosen_append, chosen_by_rule, chosen_same}
use Rattle.served_record.proofs.Selections.{StandsBy, chosen_is_choice, standing_for, stands_by, taken_one}

-- an impression's choice brings the campaigns to what they have committed for the next one
stands_next : (cs : List CampaignRow) (before : List Entry) (a : Ask) (imp campaign : ℕ) → StandsBy (row_budgets cs) before a → SellsOnce a → standing_for cs before a imp campaign + picked_charge campaign (impression_of a imp) (chosen_of a imp) ≡ standing_for cs before a (suc imp) campaign
stands_next cs before a imp campaign s once =
    let budgets : List Units = row_budgets cs in
    let was : List Offer = (undecided a).offers in
    let step = standing_step budgets (committed before) was imp campaign in
    let money = awarded_money budgets (committed before) was imp campaign (is_undecided a) in
    let settled : sum_by (charge_for campaign) (awarded_offers (settled_offers budgets (committed before) was) imp) ≡ sum_by (charge_for campaign) (awarded_offers a.offers imp) =
    ap (λ (os : List Offer). sum_by (charge_for campaign) (awarded_offers os imp)) (sym s.offers) in
    omega (arith, step, money, settled, taken_one a imp campaign once)

-- the rows of an ask's impressions
ask_rows : (cs : List CampaignRow) (before : List Entry) (a : Ask) (ws : List Award) (n imp more : ℕ) → StandsBy (row_budgets cs) before a → SellsOnce a → ChosenFrom cs (standing_for cs before a imp) (rows_for ws n a (range_with_len imp more))
ask_rows cs before a ws n imp zero s once = tt
ask_rows cs before a ws n imp (suc more) s once = (
  chosen_is_choice cs before a imp s,
  let next : imp + 1 ≡ suc imp = omega arith in
      chosen_same cs (standing_for cs before a (imp + 1)) (λ c. standing_for cs before a imp c + picked_charge c (impression_of a imp) (chosen_of a imp))
      (rows_for ws (n + sold_for a imp) a (range_with_len (imp + 1) more))
      (λ c. ap (λ (k : ℕ). standing_for cs before a k c) next ∙ sym (stands_next cs before a imp c s once))
      (ask_rows cs before a ws (n + sold_for a imp) (imp + 1) more s once),
)

-- what they take is what the ask adds to the committed money
taken_for : (ws : List Award) (n : ℕ) (a : Ask) (imps : List ℕ) (campaign : ℕ) → taken_in (rows_for ws n a imps) campaign ≡ sum_by (λ imp. picked_charge campaign (impression_of a imp) (chosen_of a imp)) imps
taken_for ws n a [] campaign = refl
taken_for ws n a (imp ∷ imps) campaign =
    omega (
      arith,
      sum_by-cons (λ (row : ImpRow). picked_charge campaign row.offers row.chosen) (row_by ws n a imp) (rows_for ws (n + sold_for a imp) a imps),
      sum_by-cons (λ (imp : ℕ). picked_charge campaign (impression_of a imp) (chosen_of a imp)) imp imps,
      taken_for ws (n + sold_for a imp) a imps campaign,
    )

ask_taken : (a : Ask) (campaign : ℕ) → SellsOnce a → sum_by (sale_charge campaign) (sales_of a) ≡ sum_by (λ imp. picked_charge campaign (impression_of a imp) (chosen_of a imp)) (imps_of a)
ask_taken a campaign once =
    sum_by-flat_map (sale_charge campaign) (λ imp. map (sale_of a) (awarded_offers a.offers imp)) (imps_of a)
    ∙ sum_by-always (λ imp. sum_by (sale_charge campaign) (map (sale_of a) (awarded_offers a.offers imp))) (λ imp. picked_charge campaign (impression_of a imp) (chosen_of a imp)) (imps_of a)
    (λ imp. sum_by-map (sale_charge campaign) (sale_of a) (awarded_offers a.offers imp) ∙ taken_one a imp campaign once)

-- the rows of an entry are chosen by the rule, and bring the committed money to what it is after the entry
record IsByRule (cs : List CampaignRow) (before : List Entry) (e : Entry) (rows : List ImpRow) : Type 0 where
  pub chosen : ChosenFrom cs (committed before) rows
  pub moved : (campaign : ℕ) → committed (before ++ e ∷ []) campaign ≡ committed before campaign + taken_in rows campaign

entry_by_rule : (cs : List CampaignRow) (terms : Terms) (before : List Entry) (e : Entry) (after : List Entry) (ws : List Award) (n : ℕ) → budgets_after terms before ≡ row_budgets cs → IsLegal terms (before ++ e ∷ after) → gone_in (before ++ e ∷ []) ≡ 0 → IsByRule cs before e (rows_by ws n e)
entry_by_rule cs terms before (Entry.Ask a) after ws n same legal none =
    let settled = stands_settled terms before a after legal in
    let s = stands_by terms before a (row_budgets cs) same settled in
    let once = sells_once terms before a settled in
    let front = legal_front terms before (Entry.Ask a ∷ after) legal in
    record {
      chosen = subst (λ (t : ℕ → ℕ). ChosenFrom cs t (rows_for ws n a (imps_of a))) (standing_start (row_budgets cs) (committed before) (undecided a).offers) (ask_rows cs before a ws n 0 (length a.imps) s once);
      moved = λ campaign. omega (arith, committed_ask terms before a campaign front, ask_taken a campaign once, taken_for ws n a (imps_of a) campaign);
    }
entry_by_rule cs terms before (Entry.Win m) after ws n same legal none =
    let still = moves_none terms before (Entry.Win m) (legal_last terms before (Entry.Win m) after legal) none in
    record { chosen = tt; moved = λ campaign. omega (arith, still campaign) }
entry_by_rule cs terms before (Entry.Bill m) after ws n same legal none =
    let still = moves_none terms before (Entry.Bill m) (legal_last terms before (Entry.Bill m) after legal) none in
    record { chosen = tt; moved = λ campaign. omega (arith, still campaign) }
entry_by_rule cs terms before (Entry.Loss m) after ws n same legal none =
    absurd (moves_none terms before (Entry.Loss m) (legal_last terms before (Entry.Loss m) after legal) none)
entry_by_rule cs terms before (Entry.Expire now) after ws n same legal none =
    absurd (moves_none terms before (Entry.Expire now) (legal_last terms before (Entry.Expire now) after legal) none)
entry_by_rule cs terms before (Entry.Budget k change budget) after ws n same legal none =
    let still = moves_none terms before (Entry.Budget k change budget) (legal_last terms before (Entry.Budget k change budget) after legal) none in
    record { chosen = tt; moved = λ campaign. omega (arith, still campaign) }

-- the budgets are these at each front of a history
abbrev pub BudgetsStay : Terms → List CampaignRow → List Entry → Type 0
BudgetsStay terms cs history = (front rest : List Entry) → history ≡ front ++ rest → budgets_after terms front ≡ row_budgets cs

-- the rows of the entries after some others
rows_by_rule : (cs : List CampaignRow) (terms : Terms) (before after : List Entry) (ws : List Award) (n : ℕ) → BudgetsStay terms cs (before ++ after) → IsLegal terms (before ++ after) → gone_in (before ++ after) ≡ 0 → ChosenFrom cs (committed before) (rows_in ws n after)
rows_by_rule cs terms before [] ws n stay legal none = tt
rows_by_rule cs terms before (e ∷ es) ws n stay legal none =
    let same : before ++ e ∷ [] ++ es ≡ before ++ e ∷ es = append_assoc before (e ∷ []) es in
    let next : IsLegal terms (before ++ e ∷ [] ++ es) = subst (IsLegal terms) (sym same) legal in
    let all : gone_in (before ++ e ∷ [] ++ es) ≡ 0 = ap gone_in same ∙ none in
    let front : gone_in (before ++ e ∷ []) ≡ 0 = omega (arith, gone_front terms (before ++ e ∷ []) es next, all) in
    let here = entry_by_rule cs terms before e es ws n (stay before (e ∷ es) refl) legal front in
    let rest = rows_by_rule cs terms (before ++ e ∷ []) es ws (n + sold_by e) (λ first later is. stay first later (sym same ∙ is)) next all in
    chosen_append cs (committed before) (rows_by ws n e) (rows_in ws (n + sold_by e) es) here.chosen
    (chosen_same cs (committed (before ++ e ∷ [])) (λ c. committed before c + taken_in (rows_by ws n e) c) (rows_in ws (n + sold_by e) es) here.moved rest)

none_taken : (campaign : ℕ) → committed [] campaign ≡ 0
unfolding awards_of
none_taken campaign = refl

-- the rows of the whole history, where their awards are kept and no budget changed
pub history_by_rule : (campaigns : List Campaign) (cs : List CampaignRow) (history : List Entry) (rows : List ImpRow) → cs ≡ campaign_rows campaigns history → IsHistoryOf campaigns history → rows ≡ rows_in (awards_of history) 0 history → list_all (λ (row : ImpRow). keeps_award row.end) rows ≡ true → list_all (λ (c : CampaignRow). is_unchanged c.changes) cs ≡ true → (imp : ℕ) (row : ImpRow) → imp < length rows → (get_or rows imp row).chosen ≡ choice_of cs (taken_in (take imp rows)) (get_or rows imp row).offers
history_by_rule campaigns cs history rows own_is h is kept unchanged =
    let ws : List Award = awards_of history in
    let own : List ImpRow = rows_in ws 0 history in
    let none : gone_in history ≡ 0 = told_kept own ws (all_told campaigns history h) (ap (list_all (λ (row : ImpRow). keeps_award row.end)) (sym is) ∙ kept) in
    let terms : Terms = terms_of (budgets_of campaigns) h.limits in
    let told : list_all (λ (c : CampaignRow). is_unchanged c.changes) (campaign_rows campaigns history) ≡ true = ap (list_all (λ (c : CampaignRow). is_unchanged c.changes)) (sym own_is) ∙ unchanged in
    let stay : BudgetsStay terms cs history = λ front later cut.
    fronts_stay campaigns h.limits front later (subst (IsLegal terms) cut h.is_day.legal) (ap (λ (t : List Entry). list_all (λ (c : CampaignRow). is_unchanged c.changes) (campaign_rows campaigns t)) (sym cut) ∙ told)
    ∙ (ap (λ (t : List Entry). row_budgets (campaign_rows campaigns t)) (sym cut) ∙ ap row_budgets (sym own_is)) in
    let chosen : ChosenFrom cs (committed []) own = rows_by_rule cs terms [] history ws 0 stay h.is_day.legal none in
    let first : ChosenFrom cs (λ c. 0) own = chosen_same cs (committed []) (λ c. 0) own none_taken chosen in
    subst (λ (xs : List ImpRow). (imp : ℕ) (row : ImpRow) → imp < length xs → (get_or xs imp row).chosen ≡ choice_of cs (taken_in (take imp xs)) (get_or xs imp row).offers) (sym is)
    (chosen_by_rule cs own first)

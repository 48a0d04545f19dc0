-- A day may be opened with a roster's campaigns and limits.
use Rattle.std.proofs.Common.{◌≤◌, List, [], ◌∷◌, map, All, sym, subst}
use Rattle.std.proofs.lemmas.List.{length-map}
use Rattle.std.proofs.lemmas.List.Elements.{All-nil, All-cons}
use Rattle.campaign_book.specs.Accounts.{IsBudget}
use Rattle.day_rules.specs.Terms.{AreTerms}
use Rattle.deal_floor.specs.declared.campaign.Campaign.{Campaign}
use Rattle.deal_floor.specs.declared.roster.Roster.{Roster}
use Rattle.history_runs.specs.Script.{terms_by}

all_budgets : (campaigns : List Campaign) → All IsBudget (map (λ (c : Campaign). c.budget) campaigns)
all_budgets [] = All-nil IsBudget
all_budgets (c ∷ campaigns) = All-cons IsBudget c.budget (map (λ (x : Campaign). x.budget) campaigns) (c.positive, c.in_range) (all_budgets campaigns)

pub roster_terms : (roster : Roster) → AreTerms (terms_by roster)
roster_terms roster = record {
  some_budget = subst (λ n. 1 ≤ n) (sym (length-map roster.campaigns (λ (c : Campaign). c.budget))) roster.some_campaign;
  few_budgets = subst (λ n. n ≤ 1024) (sym (length-map roster.campaigns (λ (c : Campaign). c.budget))) roster.few_campaigns;
  budgets = all_budgets roster.campaigns;
  auctions = roster.limits.few_auctions;
  bids = roster.limits.few_bids;
  text = roster.limits.short_text;
}

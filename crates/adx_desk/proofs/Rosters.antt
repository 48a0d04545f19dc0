-- A day may be opened with a roster's campaigns and limits.
use Rattle.std.proofs.Common.{◌≡◌, ◌≤◌, ℕ, List, [], ◌∷◌, map, All, length, sym, ◌∙◌, ap, subst}
use Rattle.std.proofs.lemmas.List.{length-map}
use Rattle.std.proofs.lemmas.List.Elements.{All-nil, All-cons}
use Rattle.campaign_book.specs.Accounts.{IsBudget}
use Rattle.day_rules.specs.Terms.{AreTerms}
use Rattle.deal_floor.specs.declared.campaign.Campaign.{Campaign}
use Rattle.deal_floor.specs.declared.roster.Roster.{Roster}
use Rattle.adx_desk.specs.Histories.{DeskTerms}
use Rattle.adx_desk.specs.Rosters.{desk_terms}

all_budgets : (campaigns : List Campaign) → All IsBudget (map (λ (c : Campaign). c.budget) campaigns)
all_budgets [] = All-nil IsBudget
all_budgets (c ∷ campaigns) = All-cons IsBudget c.budget (map (λ (x : Campaign). x.budget) campaigns) (c.positive, c.in_range) (all_budgets campaigns)

pub roster_terms : (roster : Roster) → AreTerms (desk_terms roster).day
roster_terms roster = record {
  some_budget = subst (λ n. 1 ≤ n) (sym (length-map roster.campaigns (λ (c : Campaign). c.budget))) roster.some_campaign;
  few_budgets = subst (λ n. n ≤ 1024) (sym (length-map roster.campaigns (λ (c : Campaign). c.budget))) roster.few_campaigns;
  budgets = all_budgets roster.campaigns;
  auctions = roster.limits.few_auctions;
  bids = roster.limits.few_bids;
  text = roster.limits.short_text;
}

-- a desk has a budget for each campaign of its roster
pub as_many_budgets : (terms : DeskTerms) (roster : Roster) (n : ℕ) → terms ≡ desk_terms roster → length roster.campaigns ≡ n → length terms.day.budgets ≡ n
as_many_budgets terms roster n same many =
    ap (λ (t : DeskTerms). length t.day.budgets) same ∙ (length-map roster.campaigns (λ (c : Campaign). c.budget) ∙ many)

-- The terms of a roster's day.
use Rattle.std.proofs.Common.{◌≡◌, ◌∙◌, length, ap}
use Rattle.std.proofs.lemmas.List.{length-map}
use Rattle.adx_desk.specs.Rosters.{desk_terms}
use Rattle.day_rules.specs.Terms.{Terms}
use Rattle.deal_floor.specs.declared.campaign.Campaign.{Campaign}
use Rattle.deal_floor.specs.declared.roster.Roster.{Roster}

-- as many budgets as campaigns
pub budgets_counted : (roster : Roster) (terms : Terms) → terms ≡ (desk_terms roster).day → length terms.budgets ≡ length roster.campaigns
budgets_counted roster terms opened = ap (λ (t : Terms). length t.budgets) opened ∙ length-map roster.campaigns (λ (c : Campaign). c.budget)

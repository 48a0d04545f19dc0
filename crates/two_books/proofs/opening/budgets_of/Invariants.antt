-- The budgets of the campaigns so far.
use Rattle.std.proofs.Common.{◌≡◌, take, map}
use Rattle.deal_floor.specs.declared.campaign.Campaign.{Campaign}
use Rattle.two_books.proofs.opening.budgets_of.Given as goal

abbrev pub invariant-loop-campaign : goal.invariant-loop-campaign
invariant-loop-campaign l = l.budgets.items ≡ map (λ (c : Campaign). c.budget) (take l.campaign-index l.campaigns)

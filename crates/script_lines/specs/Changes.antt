-- The change of a budget that texts name: a campaign's seat and id, the change's number, and the budget in dollars. This
-- project's own.
use Rattle.std.specs.Prelude.{ℕ, List, length, Option, Some, None, Result, Ok, Err}
use Rattle.std.specs.List.{position}
use Rattle.std.specs.Option.{unwrap_or}
use Rattle.adx_units.specs.Money.{budget_of}
use Rattle.adx_units.specs.declared.price.PriceFault.{PriceFault}
use Rattle.adx_units.specs.declared.units.Units.{Units}
use Rattle.day_rules.specs.Entries.{BudgetChange, change_of}
use Rattle.deal_floor.specs.Pairs.{has_pair}
use Rattle.deal_floor.specs.declared.campaign.Campaign.{Campaign}
use Rattle.script_lines.specs.Members.{change_number}
use Rattle.script_lines.specs.declared.budget.Change.{Change}

-- the place of the campaign with that seat and id; a pair that the roster hasn't is at the place behind them all, which is
-- no campaign's
abbrev pub pair_place : List Campaign → List ℕ → List ℕ → ℕ
pair_place campaigns seat cid = unwrap_or (position (has_pair seat cid) campaigns) (length campaigns)

-- a campaign's change, where its number and its budget are of their form
abbrev pub change_by : ℕ → Option ℕ → Result Units PriceFault → Option BudgetChange
change_by campaign None budget = None
change_by campaign (Some change) (Err fault) = None
change_by campaign (Some change) (Ok budget) = Some (change_of campaign change budget)

-- the change that four texts name
abbrev pub change_named : List Campaign → List ℕ → List ℕ → List ℕ → List ℕ → Option BudgetChange
change_named campaigns seat cid change budget =
    change_by (pair_place campaigns seat cid) (change_number change) (budget_of budget)

-- the same where each text may be absent
abbrev pub change_in : List Campaign → Option (List ℕ) → Option (List ℕ) → Option (List ℕ) → Option (List ℕ) → Option BudgetChange
change_in campaigns None cid change budget = None
change_in campaigns (Some seat) None change budget = None
change_in campaigns (Some seat) (Some cid) None budget = None
change_in campaigns (Some seat) (Some cid) (Some change) None = None
change_in campaigns (Some seat) (Some cid) (Some change) (Some budget) = change_named campaigns seat cid change budget

-- the change that was read
abbrev pub change_told : Change → BudgetChange
change_told c = change_of c.campaign c.number c.budget

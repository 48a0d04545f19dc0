use Rattle.day_rules.proofs.Within.{within_budget}
use Rattle.day_rules.proofs.laws.within_budget.Goals as goal

pub returns : goal.returns
returns c = within_budget

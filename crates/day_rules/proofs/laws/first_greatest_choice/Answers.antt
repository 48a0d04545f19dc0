use Rattle.day_rules.proofs.Choices.{stands_settled}
use Rattle.day_rules.proofs.laws.first_greatest_choice.Goals as goal

pub returns : goal.returns
returns c = stands_settled

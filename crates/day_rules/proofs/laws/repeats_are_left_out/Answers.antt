use Rattle.day_rules.proofs.Running.{left_out}
use Rattle.day_rules.proofs.laws.repeats_are_left_out.Goals as goal

pub returns : goal.returns
returns c = left_out

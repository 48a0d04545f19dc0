use Rattle.day_rules.proofs.Ordering.{commute}
use Rattle.day_rules.proofs.laws.notices_commute.Goals as goal

pub returns : goal.returns
returns c = commute

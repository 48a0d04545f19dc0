-- By induction over the events.
use Rattle.share_rules.proofs.Happening.{always_within}
use Rattle.share_rules.proofs.day_law.days_never_more_than_the_whole.Goals as goal

pub returns : goal.returns
returns c = always_within

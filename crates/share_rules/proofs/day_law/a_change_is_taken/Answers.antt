-- By the cases of a day's answer to a change.
use Rattle.share_rules.proofs.Taking.{takes}
use Rattle.share_rules.proofs.day_law.a_change_is_taken.Goals as goal

pub returns : goal.returns
returns c = takes

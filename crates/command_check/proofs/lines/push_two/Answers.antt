-- Three pieces.
use Rattle.command_check.proofs.Chains.{three}
use Rattle.command_check.proofs.lines.push_two.Goals as goal

pub returns : goal.returns
returns c = three _ _ _ _ _ _ _ c.in_ok-push_one.ensures c.in_ok-push_number.ensures c.in_ok-push.ensures

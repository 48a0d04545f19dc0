-- Three pieces.
use Rattle.command_check.proofs.Chains.{three}
use Rattle.command_check.proofs.lines.push_failing.Goals as goal

pub returns : goal.returns
returns c = three _ _ _ _ _ _ _ (rw c.from.ensures at c.in_ok-push_one.ensures) c.in_ok-push.ensures c.in_ok-push-2.ensures

-- Each turn that was gained is a call among the steps.
use Rattle.shared_desk.specs.PassLaws.{calls_are_turns}
use Rattle.shared_desk.proofs.pass_desk.calls_are_turns.Goals as goal

pub returns : goal.returns
returns c = calls_are_turns

-- Each step at the history after the calls before it.
use Rattle.adx_desk.proofs.Chains.{owned_run}
use Rattle.adx_desk.proofs.steps.owned_run.Goals as goal

pub returns : goal.returns
returns c = owned_run

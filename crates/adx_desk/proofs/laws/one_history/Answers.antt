use Rattle.adx_desk.proofs.OneHistory.{one_history as once}
use Rattle.adx_desk.proofs.laws.one_history.Goals as goal

pub returns : goal.returns
returns c = once

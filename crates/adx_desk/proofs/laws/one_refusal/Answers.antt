use Rattle.adx_desk.proofs.OneRefusal.{one_refusal as once}
use Rattle.adx_desk.proofs.laws.one_refusal.Goals as goal

pub returns : goal.returns
returns c = once

use Rattle.adx_desk.proofs.OneHistory.{refused_or_stands}
use Rattle.adx_desk.proofs.laws.refusals_exclude.Goals as goal

pub returns : goal.returns
returns c = refused_or_stands

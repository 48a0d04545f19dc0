-- A history between those of two steps.
use Rattle.adx_desk.proofs.Chains.{each_between}
use Rattle.adx_desk.proofs.steps.each_between.Goals as goal

pub returns : goal.returns
returns c = each_between

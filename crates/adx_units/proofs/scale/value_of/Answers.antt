use Rattle.std.proofs.Common.{◌∙◌}
use Rattle.adx_units.specs.declared.scale.TheConstants.{CAP}
use Rattle.adx_units.proofs.Capped.{capped_parts}
use Rattle.adx_units.proofs.scale.value_of.Goals as goal

pub returns : goal.returns
returns c = c.value_after-2.ensures ∙ capped_parts c.value_after.result c.args.first.now c.args.second.now CAP c.value_after.ensures

use Rattle.std.proofs.Common.{ap, ◌∙◌}
use Rattle.adx_units.specs.Among.{is_among}
use Rattle.adx_units.proofs.Sets.{found}
use Rattle.adx_units.proofs.name_set.NameSet.has.Goals as goal

pub returns : goal.returns
returns c = c.contains.ensures ∙ found c.args.name.now c.self.inside.names.keys ∙ ap (λ s. is_among s c.args.name.now) c.self.view_is

use Rattle.std.proofs.Common.{ap, ◌∙◌, ◌||◌, bytes_eq}
use Rattle.adx_units.specs.Among.{is_among}
use Rattle.adx_units.proofs.Sets.{put_in}
use Rattle.adx_units.proofs.name_set.NameSet.put.Goals as goal

pub returns-clause-added : goal.returns-clause-added
returns-clause-added c = λ other. put_in c.self.inside.names c.insert.new.self c.args.name c.in_ok-_is_new.ensures.updates other ∙ ap (λ s. bytes_eq c.args.name.now other || is_among s other) c.self.view_is

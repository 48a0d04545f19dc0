use Rattle.std.proofs.Common.{◌∙◌, ap}
use Rattle.std.specs.List.{list_any}
use Rattle.adx_units.specs.Among.{is_among}
use Rattle.adx_units.proofs.Sets.{any_either_way}
use Rattle.adx_units.proofs.among.any_among.Goals as goal

-- src/among.rt:30:9
pub returns-then-names-others : goal.returns-then-names-others
returns-then-names-others c = c.has_any.ensures ∙ ap (λ l. list_any (is_among l) c.args.others.now) c.of-ready.ensures ∙ any_either_way c.args.others.now c.args.names.now

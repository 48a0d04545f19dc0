use Rattle.std.proofs.Common.{◌∷◌, ap, sym, ◌∙◌}
use Rattle.adx_units.proofs.Sets.{one_more, all_in}
use Rattle.adx_units.proofs.name_set.NameSet.of.Goals as goal

pub texts-preserved : goal.texts-preserved
texts-preserved c =
    let cut = c.in-Some.ensures.cases.0 ∙ ap (λ n. n ∷ c.in-Some.behind.now) (sym c.as_str.ensures.value) in
    one_more c.args.texts.now c.texts.left.now c.in-Some.behind.now c.texts.set c.put.new.self c.as_str.result.now c.texts.invariant cut c.in_ok-put.ensures.added

pub returns : goal.returns
returns c = all_in c.args.texts.now c.texts.left.now c.texts.set c.texts.invariant c.in_default.ensures.cases

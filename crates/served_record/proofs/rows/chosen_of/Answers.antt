use Rattle.std.proofs.Common.{arith, sym, ◌∙◌}
use Rattle.served_record.proofs.RowLists.{chosen_below, few_admitted}
use Rattle.served_record.proofs.rows.chosen_of.Goals as goal

pub overflow_cast-result : goal.overflow_cast-result
overflow_cast-result c =
    omega (arith, chosen_below c.args.imp c.args.offers.now c.in-Some.place (sym c.place_of.ensures ∙ c.in-Some.is), few_admitted c.args.imp c.args.offers.now, c.requires)

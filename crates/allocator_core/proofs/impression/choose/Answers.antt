use Rattle.std.proofs.Common.{arith}
use Rattle.allocator_core.specs.Choice.{competes, no_offer, weight_of}
use Rattle.allocator_core.specs.Settling.{budgets_in, standing_beside}
use Rattle.allocator_core.proofs.Lists.{best_begins, best_goes_on, best_within}
use Rattle.allocator_core.proofs.Choosing.{chosen_best}
use Rattle.allocator_core.proofs.impression.choose.Goals as goal

pub loop-place-init : goal.loop-place-init
loop-place-init c =
    let budgets = budgets_in c.args.book.now in
    let standing = standing_beside c.args.book.now c.args.offers.now in
    best_begins (competes budgets standing c.args.imp) (weight_of budgets standing) c.args.offers.now c.new-best.result c.new-best.ensures

pub loop-place-preserved : goal.loop-place-preserved
loop-place-preserved c =
    let budgets = budgets_in c.args.book.now in
    let standing = standing_beside c.args.book.now c.args.offers.now in
    best_goes_on (competes budgets standing c.args.imp) (weight_of budgets standing) c.args.offers.now c.loop-place.place c.loop-place.best c.with-best.result no_offer c.weight_among-weight.result c.loop-place-test.true c.loop-place.invariant c.weight_among-weight.ensures c.with-best.ensures

pub returns : goal.returns
returns c =
    let budgets = budgets_in c.args.book.now in
    let standing = standing_beside c.args.book.now c.args.offers.now in
    record {
      value = chosen_best budgets standing c.args.offers.now c.args.imp c.loop-place.place c.loop-place.best (omega arith) c.loop-place.invariant;
      within = best_within (competes budgets standing c.args.imp) (weight_of budgets standing) c.args.offers.now c.loop-place.place c.loop-place.best.place c.loop-place.best.weight (omega arith) c.loop-place.invariant;
    }

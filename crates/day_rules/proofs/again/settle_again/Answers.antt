use Rattle.std.proofs.Common.{List, length}
use Rattle.adx_units.specs.declared.offer.Offer.{Offer}
use Rattle.allocator_core.specs.Settling.{budgets_in, standing_in}
use Rattle.day_rules.proofs.AgainSettled.{again_offers, again_unsettled, as_before, same_reasons}
use Rattle.day_rules.proofs.again.settle_again.Goals as goal

pub settle-requires-clause-offers : goal.settle-requires-clause-offers
settle-requires-clause-offers c =
    again_offers (length c.args.book.now) c.args.imps c.args.offers.now c.copy_undecided.new.again c.copy_undecided.ensures c.requires.few c.requires.formed

pub settle-requires-clause-unsettled : goal.settle-requires-clause-unsettled
settle-requires-clause-unsettled c =
    again_unsettled (length c.args.book.now) c.args.imps c.args.offers.now c.copy_undecided.new.again c.copy_undecided.ensures c.requires.formed

pub returns : goal.returns
returns c =
    let offers : List Offer = c.args.offers.now in
    let again : List Offer = c.copy_undecided.new.again in
    let given : List Offer = c.settle.new.offers in
    let budgets = budgets_in c.args.book.now in
    let standing = standing_in c.args.book.now in (
      λ yes. as_before budgets standing offers again given c.copy_undecided.ensures c.settle.ensures (c.are_same.ensures.0 yes),
      λ same. c.are_same.ensures.1 (same_reasons budgets standing offers again given c.copy_undecided.ensures c.settle.ensures same),
    )

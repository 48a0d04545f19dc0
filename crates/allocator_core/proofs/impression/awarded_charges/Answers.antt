use Rattle.std.proofs.Common.{◌^◌, arith}
use Rattle.allocator_core.specs.Choice.{no_offer}
use Rattle.allocator_core.proofs.Sums.{awarded_step}
use Rattle.allocator_core.proofs.impression.awarded_charges.Goals as goal

pub overflow_add-units : goal.overflow_add-units
overflow_add-units c =
    omega (arith, awarded_step c.args.offers.now c.args.campaign c.loop-offer.offer-index (10 ^ 12) no_offer c.requires.small c.loop-offer-test.true c.if-offer-eq-AWARDED.true c.if-offer-campaign.true)

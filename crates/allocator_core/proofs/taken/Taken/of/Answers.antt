use Rattle.std.proofs.Common.{◌^◌, take, arith, length-take}
use Rattle.adx_units.specs.Money.{units}
use Rattle.allocator_core.proofs.Sums.{taken_step}
use Rattle.allocator_core.proofs.taken.Taken.of.Goals as goal

pub overflow_add-units : goal.overflow_add-units
overflow_add-units c =
    omega (arith, length-take c.self.inside.len c.self.inside.takes, taken_step (take c.self.inside.len c.self.inside.takes) c.args.campaign c.loop-take.take-index (10 ^ 12) (record { campaign = 0; charge = units 0 }) c.self.invariant.1 c.loop-take-test.true c.if-take-campaign.true)

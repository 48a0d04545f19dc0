-- One award more.
use Rattle.std.proofs.Common.{arith}
use Rattle.day_machine.proofs.Money.{charges_more}
use Rattle.day_machine.proofs.committed.charges_from.Goals as goal

pub overflow_add-sum : goal.overflow_add-sum
overflow_add-sum c =
    omega (arith, c.requires.small, c.loop-n.invariant, c.charge_of-sum.ensures, charges_more c.args.awards.now.awards c.loop-n.n (omega (arith, c.loop-n-test.true, c.len-n-end.ensures)))

pub loop-n-preserved : goal.loop-n-preserved
loop-n-preserved c =
    omega (arith, c.loop-n.invariant, c.charge_of-sum.ensures, charges_more c.args.awards.now.awards c.loop-n.n (omega (arith, c.loop-n-test.true, c.len-n-end.ensures)))

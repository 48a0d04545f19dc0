-- The lesser of the first bills of both lists.
use Rattle.command_reconcile.proofs.Least.{least_both}
use Rattle.command_reconcile.proofs.walk.least.Goals as goal

pub returns-in-Some-first_of-clause-some : goal.returns-in-Some-first_of-clause-some
returns-in-Some-first_of-clause-some c =
    least_both c.in-Some.ours.now c.in-Some-first_of.theirs.now c.lesser.result.now c.args.exchange.now c.args.bidder.now c.in-Some.ensures.some c.in-Some-first_of.ensures.some c.lesser.ensures

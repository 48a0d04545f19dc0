-- The first of the bills.
use Rattle.command_reconcile.proofs.Least.{first_is}
use Rattle.command_reconcile.proofs.walk.first_of.Goals as goal

pub returns-in-Some-clause-some : goal.returns-in-Some-clause-some
returns-in-Some-clause-some c = first_is c.in-Some.first.now c.in-Some.field-0-1.now c.args.bills.now c.in-Some.ensures.cases.0 c.requires

-- What holds of a world holds after each step.
use Rattle.two_books.proofs.Equal.{each_bill, steps_both, sum_below, sums_equal}
use Rattle.two_books.proofs.Agreeing.{bills_agree}
use Rattle.two_books.proofs.world.World.step.Goals as goal

pub invariant_of-self : goal.invariant_of-self
invariant_of-self c = steps_both c.args.step.now c.step.result c.self.inside.books c.step.new.self c.step.ensures.named c.self.invariant c.step.ensures.does

pub returns-clause-agree : goal.returns-clause-agree
returns-clause-agree c =
    bills_agree c.step.new.self.bidder.line.base c.step.new.self.exchange.day.history c.step.new.self.bidder.rows
    (steps_both c.args.step.now c.step.result c.self.inside.books c.step.new.self c.step.ensures.named c.self.invariant c.step.ensures.does).0.ledger

pub returns-clause-below : goal.returns-clause-below
returns-clause-below c =
    sum_below c.step.new.self (steps_both c.args.step.now c.step.result c.self.inside.books c.step.new.self c.step.ensures.named c.self.invariant c.step.ensures.does).0

pub returns-clause-equal : goal.returns-clause-equal
returns-clause-equal c = λ left.
    let both = steps_both c.args.step.now c.step.result c.self.inside.books c.step.new.self c.step.ensures.named c.self.invariant c.step.ensures.does in
    sums_equal c.step.new.self both.0 both.1 left

pub returns-clause-whole : goal.returns-clause-whole
returns-clause-whole c = λ same.
    each_bill c.step.new.self (steps_both c.args.step.now c.step.result c.self.inside.books c.step.new.self c.step.ensures.named c.self.invariant c.step.ensures.does).0 same

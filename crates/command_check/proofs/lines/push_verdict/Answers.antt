-- A number is the same in a wider type.
use Rattle.command_check.proofs.lines.push_verdict.Goals as goal

pub returns-in-Alpha : goal.returns-in-Alpha
returns-in-Alpha c = rw c.in-Alpha.is (rw c.from.ensures at c.push_one-in-Alpha.ensures)

pub returns-in-Broken : goal.returns-in-Broken
returns-in-Broken c = rw c.in-Broken.is (rw (c.from-in-Broken.ensures, c.from-in-Broken-2.ensures) at c.push_two.ensures)

pub returns-in-Bound : goal.returns-in-Bound
returns-in-Bound c = rw c.in-Bound.is c.push_two-in-Bound.ensures

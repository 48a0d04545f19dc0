use Rattle.std.specs.Map.Iter.{deref_pair}
use Rattle.std.proofs.lemmas.Map.Iter.{rest_all, rest_more}
use Rattle.outbox.specs.Keeping.{due_numbers}
use Rattle.outbox.proofs.Changes.{due_all, due_taken}
use Rattle.outbox.proofs.rows.Rows.due.Goals as goal

pub loop-n-preserved : goal.loop-n-preserved
loop-n-preserved c =
    due_taken c.args.now (deref_pair (c.in-Some.n, c.in-Some.deadline)) c.loop-n.n-iterator c.next.new.self (due_numbers c.args.now c.args.self.now.deadlines) c.loop-n.numbers.items c.push_due.new.numbers.items
    (rest_more deref_pair c.loop-n.n-iterator c.next.new.self c.next.result (c.in-Some.n, c.in-Some.deadline) c.in-Some.is c.next.ensures.steps) c.loop-n.invariant c.in_ok-push_due.ensures

pub returns-clause-numbers : goal.returns-clause-numbers
returns-clause-numbers c =
    due_all c.args.now c.loop-n.n-iterator (due_numbers c.args.now c.args.self.now.deadlines) c.loop-n.numbers.items (rest_all deref_pair c.loop-n.n-iterator c.next.new.self c.next.result c.in-None.is c.next.ensures.steps) c.loop-n.invariant

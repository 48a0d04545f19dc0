use Rattle.std.proofs.Common.{◌≡◌, ◌++◌, take}
use Rattle.outbox.proofs.Walks.{rows_of_first}
use Rattle.outbox.proofs.asking.push_rows.Given as goal

abbrev pub invariant-loop-place : goal.invariant-loop-place
invariant-loop-place l = l.out.items ≡ l.initial.out.items ++ rows_of_first l.ask l.imp (take l.place l.offers)

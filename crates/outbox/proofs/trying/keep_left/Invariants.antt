use Rattle.outbox.proofs.Parts.{KeepsLeft}
use Rattle.outbox.proofs.trying.keep_left.Given as goal

abbrev pub invariant-loop-at : goal.invariant-loop-at
invariant-loop-at l = KeepsLeft l.outcomes l.begin l.initial.posts.items l.posts.items l.count l.at

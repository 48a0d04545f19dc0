use Rattle.std.specs.Prelude.{◌≡◌}
use Rattle.adx_links.proofs.worker.work.Given as goal

abbrev pub invariant-loop : goal.invariant-loop
invariant-loop g l = l.shares.taken.amount ≡ l.shares.given.amount

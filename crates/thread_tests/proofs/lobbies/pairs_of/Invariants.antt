use Rattle.std.specs.Prelude.{All}
use Rattle.adx_links.specs.Pairs.{IsNew}
use Rattle.adx_links.specs.MemoryAcceptors.{pair_told}
use Rattle.thread_tests.proofs.lobbies.pairs_of.Given as goal

abbrev pub invariant-loop-letter : goal.invariant-loop-letter
invariant-loop-letter l = All (λ p. IsNew (pair_told p)) l.pairs.items

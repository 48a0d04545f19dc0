use Rattle.std.specs.Prelude.{All}
use Rattle.adx_links.specs.Pairs.{IsNew}
use Rattle.adx_links.specs.MemoryAcceptors.{pair_told}
use Rattle.serve_cases.proofs.objects.pairs_of.Given as goal

abbrev pub invariant-loop-letters : goal.invariant-loop-letters
invariant-loop-letters l = All (λ p. IsNew (pair_told p)) l.pairs.items

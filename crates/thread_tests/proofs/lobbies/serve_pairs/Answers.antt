use Rattle.std.proofs.Common.{◌≡◌, length}
use Rattle.adx_links.specs.Pairs.{acceptor_told}
use Rattle.adx_links.specs.MemoryAcceptors.{AcceptorState, pair_told, pairs_of}
use Rattle.std.specs.Prelude.{Some}
use Rattle.thread_tests.specs.declared.tally.Outcome.{Outcome}
use Rattle.adx_links.specs.Serving.{ServedPair}
use Rattle.adx_links.proofs.Keeping.{closes}
use Rattle.thread_tests.proofs.lobbies.serve_pairs.Goals as goal

pub returns : goal.returns
returns g c =
    let l = c.in_ok-left.left in let m = c.close.ensures in
    record {
      closed = closes (λ _ (s : ServedPair Outcome). length s.turns ≡ 1) g.J.Names.first 0 0 (λ (o : Outcome). o.added)
          (acceptor_told (λ (a : AcceptorState). a.faults) (λ (a : AcceptorState). a.over) (λ (a : AcceptorState). Some (pairs_of a)) pair_told l.acceptor)
          l.pass l.intake l.wanting c.close.result.items.items m.list m.own m.stand c.in_ok-left.ensures;
    }

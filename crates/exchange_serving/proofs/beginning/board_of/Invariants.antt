use Rattle.std.proofs.Common.{◌≡◌, []}
use Rattle.std.specs.Prelude.{All}
use Rattle.meter_board.specs.Words.{taken, published, IsOf}
use Rattle.exchange_serving.proofs.beginning.board_of.Given as goal

abbrev pub invariant-loop-reader : goal.invariant-loop-reader
invariant-loop-reader g l = record {
  taken : taken l.board ≡ [];
  published : published l.board ≡ [];
  of : All (λ r. IsOf r l.board) l.all.items;
}

use Rattle.std.proofs.Common.{◌≡◌, [], length}
use Rattle.std.specs.Prelude.{All}
use Rattle.meter_board.specs.Words.{taken, published, IsOf}
use Rattle.desk_board.proofs.board.Board.new.Given as goal

abbrev pub invariant-loop-reader : goal.invariant-loop-reader
invariant-loop-reader g l = record {
  taken : taken l.board ≡ [];
  published : published l.board ≡ [];
  many : length l.all.items ≡ l._reader;
  of : All (λ r. IsOf r l.board) l.all.items;
}

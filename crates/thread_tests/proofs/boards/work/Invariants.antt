use Rattle.std.proofs.Common.{◌≡◌}
use Rattle.meter_board.specs.Words.{list_read}
use Rattle.thread_tests.proofs.boards.work.Given as goal

abbrev pub invariant-loop-turn : goal.invariant-loop-turn
invariant-loop-turn g l = list_read l.reader ≡ g.J.Naming.book

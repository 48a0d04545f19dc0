use Rattle.meter_board.specs.Words.{list_of}
use Rattle.thread_tests.proofs.boards.two_threads_read.Given as goal

-- the board that was just made
abbrev pub ghosts-read_by_two : goal.ghosts-read_by_two
ghosts-read_by_two g a = record { book = list_of a.board }

-- By what the board shows.
use Rattle.meter_board.specs.Words.{published}
use Rattle.desk_board.proofs.Meeting.{steps_of_front}
use Rattle.desk_board.proofs.board.Board.tell.Goals as goal

pub returns-clause-front : goal.returns-clause-front
returns-clause-front g c = let board = c.args.self.now in steps_of_front (published board.board) board.pass.seen c.tell.result c.tell.ensures.count board.shows

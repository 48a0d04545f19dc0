-- All that was written is still to be put, or was put.
use Rattle.adx_io.specs.TalkState.{state_of}
use Rattle.history_runs.proofs.Putting.{front_none, piece_put}
use Rattle.command_notices.proofs.lines.put_piece.Goals as goal

pub returns-then-len-lt-PIECE-clause-puts : goal.returns-then-len-lt-PIECE-clause-puts
returns-then-len-lt-PIECE-clause-puts g c = let before = state_of c.args.talk.now in front_none before.held before.out

pub returns-clause-puts : goal.returns-clause-puts
returns-clause-puts g c =
    piece_put (state_of c.args.talk.now) (state_of c.put_out.new.self) c.put_out.result c.put_out.ensures.all c.put_out.ensures.fault c.put_out.ensures.front

-- What was written with the line is put once it is a piece.
use Rattle.std.proofs.Common.{◌++◌, List, ℕ, subst, string_bytes}
use Rattle.adx_io.specs.TalkState.{state_of}
use Rattle.history_runs.specs.Putting.{PutsPiece}
use Rattle.history_runs.proofs.Putting.{puts_none}
use Rattle.command_notices.specs.PostLines.{post_line}
use Rattle.command_notices.proofs.lines.put_post.Goals as goal

pub returns-in-Ok-clause-puts : goal.returns-in-Ok-clause-puts
returns-in-Ok-clause-puts g c =
    let held = g.K.Sink.held c.args.talk.now.sink.now in
    let now = state_of c.put_piece.new.talk in
    subst (λ (bytes : List ℕ). PutsPiece held now.held bytes now.out c.put_piece.result) c.in-Ok.ensures c.put_piece.ensures.puts

pub returns-in-Err-clause-puts : goal.returns-in-Err-clause-puts
returns-in-Err-clause-puts g c =
    puts_none (g.K.Sink.held c.args.talk.now.sink.now) (string_bytes c.args.talk.now.out.now ++ post_line c.args.post.now)

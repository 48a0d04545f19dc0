-- The outbox has followed the whole history.
use Rattle.command_notices.proofs.Posted.{posts_followed}
use Rattle.command_notices.proofs.printing.outbox_of.Goals as goal

pub returns : goal.returns
returns c =
    posts_followed c.requires.0 c.args.entries.now c.in_ok-outbox.outbox c.follow.new.self c.follow.result c.in_ok-follow.was c.in_ok-outbox.ensures.followed c.in_ok-outbox.ensures.pending c.requires.1 c.follow.ensures

use Rattle.std.proofs.Common.{[]}
use Rattle.outbox.specs.Posts.{posts_of}
use Rattle.command_notices.proofs.Tried.{followed, tries_posts}
use Rattle.command_notices.proofs.posting.post_history.Goals as goal

pub returns-in-Ok-follow : goal.returns-in-Ok-follow
returns-in-Ok-follow g c =
    let entries = c.args.entries.now in
    let follows = c.in-Ok-follow.ensures c.requires.day.0 [] c.in-Ok.ensures.followed c.requires.day.1 in
    tries_posts g.L.Link (posts_of entries) c.follow.new.self.pending c.args.link.now c.pump_once.new.link c.pump_once.result
    (followed g.L.Link entries c.in-Ok.made c.follow.new.self c.in-Ok.ensures.pending follows) c.pump_once.ensures

use Rattle.command_notices.proofs.Ended.{ends_posting}
use Rattle.command_notices.proofs.posting.post_notices.Goals as goal

pub returns-in-Ok-clause-ends : goal.returns-in-Ok-clause-ends
returns-in-Ok-clause-ends g c =
    ends_posting g.L.Link g.D.Disk c.args.document.now c.in-Ok.roster c.args.disk c.post_day.result.1 c.args.link.now c.post_day.new.link c.post_day.result.0
    c.in-Ok.ensures.finds c.post_day.ensures.day

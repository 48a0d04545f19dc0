-- The desk was called.
use Rattle.day_rules.specs.Replies.{notice}
use Rattle.command_gen.proofs.DeskTaken.{takes_done, takes_failed}
use Rattle.command_gen.proofs.calls.take_notice.Goals as goal

pub returns-in-Ok-clause-takes : goal.returns-in-Ok-clause-takes
returns-in-Ok-clause-takes g c =
    takes_done g.D.Disk.faults g.D.Disk.may_leave g.D.Disk.moment g.D.Disk.left_since c.args.desk.now c.notice.new.self (notice c.args.kind c.args.auction.now c.args.award) c.in-Ok.field-0 tt c.in-Ok.ensures.serves c.in-Ok.ensures.ends

pub returns-in-Err-clause-takes : goal.returns-in-Err-clause-takes
returns-in-Err-clause-takes g c =
    takes_failed g.D.Disk.faults g.D.Disk.may_leave g.D.Disk.moment g.D.Disk.left_since c.args.desk.now c.notice.new.self (notice c.args.kind c.args.auction.now c.args.award) c.in-Err.fault c.passed_over.result tt c.in-Err.ensures.serves c.in-Err.ensures.ends c.passed_over.ensures

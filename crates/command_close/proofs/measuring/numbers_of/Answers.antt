-- The numbers are those of the record.
use Rattle.command_close.proofs.OneGuarantee.{numbers_by}
use Rattle.command_close.proofs.measuring.numbers_of.Goals as goal

pub returns : goal.returns
returns c =
    let ratio = c.ratio.ensures in
    numbers_by c.args.roster.now c.args.entries.now c.in_ok-day.day c.in_ok-day.ensures.served c.in_ok-day.ensures.chosen c.ratio.result
    ratio.small ratio.committed ratio.greatest ratio.imps ratio.bound ratio.left ratio.right ratio.guarantee

-- The batch ran, or the disk's fault gave it up.
use Rattle.std.proofs.Common.{List, ap, subst}
use Rattle.day_machine.specs.Batches.{BatchState}
use Rattle.day_rules.specs.Laws.{Arrival}
use Rattle.adx_desk.specs.Together.{TakesNotices}
use Rattle.adx_desk.proofs.Notices.{takes_behind, takes_together}
use Rattle.adx_desk.proofs.outcomes.take_batch.Goals as goal

pub returns-in-Ok-clause-takes : goal.returns-in-Ok-clause-takes
returns-in-Ok-clause-takes g c =
    takes_together g.Y.DayDesk.runs c.args.desk.now c.batch.new.self c.args.batch.now c.batch.new.batch c.take_answers.new.outcomes.items c.in-Ok.ensures.done c.take_answers.ensures.answers

pub returns-in-Err-clause-takes : goal.returns-in-Err-clause-takes
returns-in-Err-clause-takes g c =
    let same = ap (λ (b : BatchState). b.calls) c.in-Err.ensures.failed.1 in
    takes_behind g.Y.DayDesk.runs g.Y.DayDesk.lost g.met.Y.DayDesk.retried c.args.desk.now c.batch.new.self c.take_one_by_one.new.desk c.args.batch.now.calls c.take_one_by_one.new.outcomes.items c.requires.few c.requires.apart c.in-Err.ensures.failed.0
    (subst (λ (l : List Arrival). TakesNotices g.Y.DayDesk.runs c.batch.new.self c.take_one_by_one.new.desk l c.take_one_by_one.new.outcomes.items) same c.take_one_by_one.ensures.takes)

-- A notice was done, or given up by the disk's fault.
use Rattle.day_rules.specs.Laws.{Arrival}
use Rattle.adx_desk.proofs.Notices.{takes_done, takes_given_up}
use Rattle.adx_desk.proofs.outcomes.take_one.Goals as goal

pub returns-in-Ok-clause-takes : goal.returns-in-Ok-clause-takes
returns-in-Ok-clause-takes g c =
    let x : Arrival = record { kind = c.args.kind; auction = c.args.auction.now; award = c.args.award } in
    takes_done g.Y.DayDesk.runs c.args.desk.now c.notice.new.self x c.in-Ok.answer c.in-Ok.ensures.done

pub returns-in-Err-clause-takes : goal.returns-in-Err-clause-takes
returns-in-Err-clause-takes g c =
    let x : Arrival = record { kind = c.args.kind; auction = c.args.auction.now; award = c.args.award } in
    takes_given_up g.Y.DayDesk.runs c.args.desk.now c.notice.new.self x c.in-Err.ensures.failed

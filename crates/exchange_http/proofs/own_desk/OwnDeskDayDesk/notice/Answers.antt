-- A notice was done, or given up by the disk's fault.
use Rattle.day_rules.specs.Laws.{Arrival}
use Rattle.exchange_http.proofs.OwnCalls.{own_cause, own_noticed, own_unnoticed}
use Rattle.exchange_http.proofs.own_desk.OwnDeskDayDesk.notice.Goals as goal

pub returns-clause-done : goal.returns-clause-done
returns-clause-done g c =
    let x : Arrival = record { kind = c.args.kind; auction = c.args.auction.now; award = c.args.award } in
    let n = c.notice.ensures in
    own_noticed _ c.args.self.now.desk.now c.notice.new.self x c.notice.result c.entries-entries.ensures.legal.legal n.answer n.serves n.ends n.lasts

pub returns-clause-failed : goal.returns-clause-failed
returns-clause-failed g c =
    let x : Arrival = record { kind = c.args.kind; auction = c.args.auction.now; award = c.args.award } in
    let n = c.notice.ensures in
    own_unnoticed _ c.args.self.now.desk.now c.notice.new.self x c.notice.result c.entries-entries.ensures.legal.legal n.serves n.ends n.lasts

pub returns-clause-cause : goal.returns-clause-cause
returns-clause-cause g c =
    let old = c.args.self.now.desk.now in
    let new = c.notice.new.self in
    own_cause (g.D.Disk.faults old.disk) (g.D.Disk.faults new.disk) old.desk new.desk c.notice.result c.notice.ensures.ends

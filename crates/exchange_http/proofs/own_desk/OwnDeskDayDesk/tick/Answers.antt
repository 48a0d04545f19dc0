-- A tick was done, or given up by the disk's fault.
use Rattle.exchange_http.proofs.OwnCalls.{own_cause, own_ticked, own_unticked}
use Rattle.exchange_http.proofs.own_desk.OwnDeskDayDesk.tick.Goals as goal

pub returns-clause-done : goal.returns-clause-done
returns-clause-done g c = let t = c.tick.ensures in own_ticked _ c.args.self.now.desk.now c.tick.new.self c.args.now c.tick.result c.entries-entries.ensures.legal.legal c.requires t.answer t.serves t.ends t.lasts

pub returns-clause-failed : goal.returns-clause-failed
returns-clause-failed g c = let t = c.tick.ensures in own_unticked _ c.args.self.now.desk.now c.tick.new.self c.args.now c.tick.result c.entries-entries.ensures.legal.legal c.requires t.serves t.ends t.lasts

pub returns-clause-cause : goal.returns-clause-cause
returns-clause-cause g c =
    let old = c.args.self.now.desk.now in
    let new = c.tick.new.self in
    own_cause (g.D.Disk.faults old.disk) (g.D.Disk.faults new.disk) old.desk new.desk c.tick.result c.tick.ensures.ends

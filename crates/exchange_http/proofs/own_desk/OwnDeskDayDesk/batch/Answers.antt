-- The notices were taken together.
use Rattle.exchange_http.proofs.OwnCalls.{own_cause, own_together}
use Rattle.exchange_http.proofs.own_desk.OwnDeskDayDesk.batch.Goals as goal

pub returns-clause-done : goal.returns-clause-done
returns-clause-done g c =
    let b = c.batch.ensures in
    own_together _ c.args.self.now.desk.now c.batch.new.self c.args.batch.now c.batch.new.batch c.entries-entries.ensures.legal.legal c.requires.few c.requires.apart b.lasts c.batch.result b.answers b.serves b.ends

pub returns-clause-cause : goal.returns-clause-cause
returns-clause-cause g c =
    let old = c.args.self.now.desk.now in
    let new = c.batch.new.self in
    own_cause (g.D.Disk.faults old.disk) (g.D.Disk.faults new.disk) old.desk new.desk c.batch.result c.batch.ensures.ends

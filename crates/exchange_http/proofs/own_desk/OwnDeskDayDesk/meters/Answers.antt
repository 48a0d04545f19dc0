-- The meters of the history were read.
use Rattle.exchange_http.proofs.OwnCalls.{own_read}
use Rattle.exchange_http.proofs.own_desk.OwnDeskDayDesk.meters.Goals as goal

pub returns-clause-reads : goal.returns-clause-reads
returns-clause-reads g c =
    let old = c.args.self.now.desk.now in
    own_read g.D.Disk old c.meters.result (g.met.D.Disk.only_now old.disk) (g.met.D.Disk.lasts_same old.disk) c.entries-entries.ensures.legal.legal c.meters.ensures

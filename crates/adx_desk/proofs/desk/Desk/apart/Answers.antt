-- By what the disk keeps.
use Rattle.std.proofs.Common.{◌∙◌, ap, subst}
use Rattle.adx_desk.specs.Desks.{OnDisk, StandsOnDisk}
use Rattle.adx_desk.proofs.Keeping.{stands_on_disk}
use Rattle.adx_desk.proofs.desk.Desk.apart.Goals as goal

pub returns-clause-stands : goal.returns-clause-stands
returns-clause-stands g c = λ told.
    let k = c.self.invariant.keeps (ap (λ (o : OnDisk _). o.since.tells) c.self.view_is ∙ told) in
    subst (λ (o : OnDisk _). StandsOnDisk (g.D.Disk.may_leave c.self.inside.disk) o.desk) c.self.view_is (stands_on_disk (g.D.Disk.may_leave c.self.inside.disk) c.self.inside.kept.desk k)

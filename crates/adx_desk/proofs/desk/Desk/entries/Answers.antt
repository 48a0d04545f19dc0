-- By the day with its journal.
use Rattle.std.proofs.Common.{◌≤◌, ◌∙◌, ap, subst}
use Rattle.day_journal.specs.Tails.{size_of}
use Rattle.adx_desk.specs.Desks.{OnDisk, StandsOnDisk}
use Rattle.adx_desk.specs.Histories.{longest_size}
use Rattle.adx_desk.proofs.Keeping.{stands_on_disk}
use Rattle.adx_desk.proofs.desk.Desk.entries.Goals as goal

pub returns-clause-size : goal.returns-clause-size
returns-clause-size g c = subst (λ (o : OnDisk _). size_of o.desk.journal ≤ longest_size o.desk.terms o.desk.history) c.self.view_is c.day.ensures.size

pub returns-clause-stands : goal.returns-clause-stands
returns-clause-stands g c = λ told.
    let k = c.self.invariant.keeps (ap (λ (o : OnDisk _). o.since.tells) c.self.view_is ∙ told) in
    subst (λ (o : OnDisk _). StandsOnDisk (g.D.Disk.may_leave o.disk) o.desk) c.self.view_is (stands_on_disk (g.D.Disk.may_leave c.self.inside.disk) c.self.inside.kept.desk k)

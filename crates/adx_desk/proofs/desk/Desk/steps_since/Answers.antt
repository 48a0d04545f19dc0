-- A history has a step for each entry.
use Rattle.std.proofs.Common.{length, ap, arith}
use Rattle.adx_desk.specs.Desks.{OnDisk}
use Rattle.adx_desk.proofs.Asked.{as_many_steps}
use Rattle.adx_desk.proofs.desk.Desk.steps_since.Goals as goal

pub steps_from-requires : goal.steps_from-requires
steps_from-requires g c =
    omega (arith, ap length c.steps.ensures, as_many_steps c.self.inside.kept.desk.history, ap (λ (o : OnDisk _). length o.desk.history) c.self.view_is, c.requires)

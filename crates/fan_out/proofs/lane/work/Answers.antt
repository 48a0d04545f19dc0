use Rattle.std.specs.Prelude.{refl}
use Rattle.fan_out.proofs.lane.work.Goals as goal

pub returns : goal.returns
returns g c = record { answer = c.asked-answer.result; last = refl; works = c.asked-answer.ensures _ _ }

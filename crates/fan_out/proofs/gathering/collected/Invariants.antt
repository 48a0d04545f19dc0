use Rattle.std.specs.Prelude.{◌≡◌, IfOk}
use Rattle.fan_out.specs.declared.lane.Lane.{Lane}
use Rattle.fan_out.specs.Lasts.{emptied}
use Rattle.fan_out.proofs.Turns.{ChangedTo, TakenTo}
use Rattle.fan_out.proofs.gathering.collected.Given as goal

abbrev pub invariant-loop-lane : goal.invariant-loop-lane
invariant-loop-lane g l =
    ChangedTo (λ (a b : Lane g.row.L.Denot). b ≡ emptied a) l.fn.lanes l.lanes l.lane-index
    × IfOk l.answers (λ v. TakenTo l.fn.lanes v.items l.lane-index)

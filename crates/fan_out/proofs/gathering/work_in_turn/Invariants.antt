use Rattle.fan_out.specs.Lanes.{IsWorked}
use Rattle.fan_out.specs.Lasts.{Leaves}
use Rattle.fan_out.proofs.Turns.{ChangedTo}
use Rattle.fan_out.proofs.gathering.work_in_turn.Given as goal

abbrev pub invariant-loop-lane : goal.invariant-loop-lane
invariant-loop-lane g l = ChangedTo (Leaves (IsWorked g.L.Link.exchanges g.L.Link.course g.L.Link.faults g.L.Link.place l.body l.id)) l.fn.lanes l.lanes l.lane-index

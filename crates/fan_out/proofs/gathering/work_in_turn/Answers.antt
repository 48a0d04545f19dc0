use Rattle.fan_out.proofs.Turns.{changed_none, changed_more, each_leaves}
use Rattle.fan_out.proofs.gathering.work_in_turn.Goals as goal

pub loop-lane-init : goal.loop-lane-init
loop-lane-init g c = changed_none _ c.args.lanes.now

pub loop-lane-preserved : goal.loop-lane-preserved
loop-lane-preserved g c = changed_more _ c.args.lanes.now c.loop-lane.lanes c.loop-lane.lane-index c.lane-item.result c.work.new.lane c.loop-lane-test.true c.work.ensures c.loop-lane.invariant

pub returns : goal.returns
returns g c = each_leaves _ c.args.lanes.now c.loop-lane.lanes c.loop-lane.lane-index c.loop-lane-test.false c.loop-lane.invariant

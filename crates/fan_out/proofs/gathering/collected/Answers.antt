use Rattle.std.specs.Prelude.{List, slice_index_or}
use Rattle.std.proofs.Common.{sym, subst}
use Rattle.fan_out.specs.declared.answer.BidderAnswer.{BidderAnswer}
use Rattle.fan_out.proofs.Turns.{TakenTo, all_emptied_so, changed_more, changed_none, emptied_so, taken_at_end, taken_start, taken_step}
use Rattle.fan_out.proofs.gathering.collected.Goals as goal

pub loop-lane-init : goal.loop-lane-init
loop-lane-init g c = (changed_none _ c.args.lanes.now, subst (λ (xs : List BidderAnswer). TakenTo c.args.lanes.now xs 0) (sym c.new.ensures.items) (taken_start c.args.lanes.now))

pub loop-lane-preserved : goal.loop-lane-preserved
loop-lane-preserved g c = (
  changed_more _ c.args.lanes.now c.loop-lane.lanes c.loop-lane.lane-index c.lane-item.result _ c.loop-lane-test.true
      (emptied_so (slice_index_or c.loop-lane.lanes c.loop-lane.lane-index c.lane-item.result) c.take.new.self c.take.ensures.after) c.loop-lane.invariant.0,
  taken_step (λ v. v.items) c.args.lanes.now c.loop-lane.lanes c.loop-lane.lane-index c.lane-item.result c.loop-lane-test.true c.loop-lane.invariant.0
      c.take.result c.take.ensures.value c.loop-lane.answers c.put_behind-answers.result c.put_behind-answers.ensures c.loop-lane.invariant.1,
)

pub returns-clause-taken : goal.returns-clause-taken
returns-clause-taken g c = taken_at_end (λ v. v.items) c.args.lanes.now c.loop-lane.lane-index c.loop-lane.answers c.loop-lane-test.false c.loop-lane.invariant.1

pub returns-clause-emptied : goal.returns-clause-emptied
returns-clause-emptied g c = all_emptied_so c.args.lanes.now c.loop-lane.lanes c.loop-lane.lane-index c.loop-lane-test.false c.loop-lane.invariant.0

use Rattle.std.specs.Prelude.{List}
use Rattle.fan_out.specs.declared.answer.BidderAnswer.{BidderAnswer}
use Rattle.fan_out.proofs.Lasts.{all_emptied, gathered, gathered_some}
use Rattle.fan_out.proofs.Worked.{worked_kept}
use Rattle.fan_out.proofs.gathering.gather_lanes_in_turn.Goals as goal

pub returns-clause-answers : goal.returns-clause-answers
returns-clause-answers g c = gathered (λ v. v.items) _ (worked_kept g.L.Link.exchanges g.L.Link.course g.L.Link.faults g.L.Link.place c.args.body.now c.args.id.now)
    c.args.lanes.now c.work_in_turn.new.lanes c.collected.new.lanes c.work_in_turn.ensures c.collected.ensures.emptied c.collected.result c.collected.ensures.taken

pub returns-clause-worked : goal.returns-clause-worked
returns-clause-worked g c = gathered_some (λ (v : List BidderAnswer). v) _ (worked_kept g.L.Link.exchanges g.L.Link.course g.L.Link.faults g.L.Link.place c.args.body.now c.args.id.now)
    c.args.lanes.now c.work_in_turn.new.lanes c.collected.new.lanes c.work_in_turn.ensures c.collected.ensures.emptied

pub returns-clause-taken : goal.returns-clause-taken
returns-clause-taken g c = all_emptied c.work_in_turn.new.lanes c.collected.new.lanes c.collected.ensures.emptied

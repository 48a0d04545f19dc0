use Rattle.std.proofs.Common.{sym, ◌∙◌, subst, Result}
use Rattle.adx_units.specs.declared.memory.OutOfMemory.{OutOfMemory}
use Rattle.fan_out.specs.declared.answer.BidderAnswer.{BidderAnswer}
use Rattle.fan_out.specs.Lanes.{IsWorked, outcome_of}
use Rattle.fan_out.specs.Lasts.{lane_of}
use Rattle.fan_out.proofs.Worked.{untouched, worked_by}
use Rattle.fan_out.proofs.lane.asked.Goals as goal

pub returns-in-Ok : goal.returns-in-Ok
returns-in-Ok g c = λ before now.
    subst (λ (r : Result BidderAnswer OutOfMemory). IsWorked g.L.Link.exchanges g.L.Link.course g.L.Link.faults g.L.Link.place c.args.body.now c.args.id.now
    (lane_of c.args.place.now c.args.link.now c.args.conn.now before) (lane_of c.args.place.now c.exchange.new.link c.exchange.new.conn now) (outcome_of r)) (sym c.answer_of.ensures)
    (worked_by g.L.Link.exchanges g.L.Link.course g.L.Link.faults g.L.Link.place c.args.body.now c.args.id.now _ _ (λ status body h x. x)
    c.args.place.now c.args.link.now c.exchange.new.link c.args.conn.now c.exchange.new.conn before now c.exchange.result
    c.as_str.result.now c.as_slice.result.now c.as_str.ensures.value (c.as_slice.ensures.value ∙ c.in-Ok.ensures)
    c.exchange.ensures.talk c.exchange.ensures.answer c.exchange.ensures.front c.exchange.ensures.heard
    c.exchange.ensures.start_planned c.exchange.ensures.put_planned c.exchange.ensures.cause c.exchange.ensures.same c.exchange.ensures.limit)

pub returns-in-Err : goal.returns-in-Err
returns-in-Err g c = λ before now. untouched g.L.Link.exchanges g.L.Link.course g.L.Link.faults g.L.Link.place c.args.body.now c.args.id.now c.args.place.now c.args.link.now c.args.conn.now before now _

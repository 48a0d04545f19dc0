use Rattle.std.proofs.Common.{length}
use Rattle.adx_links.specs.Told.{pair_by}
use Rattle.meter_board.specs.Words.{list_read, seen}
use Rattle.exchange_serving.proofs.Workers.{beside, fresh_of, served_in, split_still, works_on}
use Rattle.exchange_serving.proofs.worker.DayWorkerWorkerDeskDay.serve.Goals as goal

pub serve_pair-requires-clause-first : goal.serve_pair-requires-clause-first
serve_pair-requires-clause-first g c = c.self.invariant.0.of

pub serve_pair-requires-clause-of : goal.serve_pair-requires-clause-of
serve_pair-requires-clause-of g c =
    let s = c.self.inside in
    fresh_of g.L.Link g.J.DayNames.moment (g.C.Clock.moment s.clock.now) g.J.DayNames.roster g.J.DayNames.workers g.J.DayNames.first g.J.DayNames.book s.desk.now s.roster.now
    (list_read s.reader) (length (seen s.reader)) s.lanes.items c.args.pass.now c.self.invariant.0 c.requires.fresh

pub serve_pair-requires-clause-opened : goal.serve_pair-requires-clause-opened
serve_pair-requires-clause-opened g c = c.self.invariant.0.opened

pub serve_pair-requires-clause-lanes : goal.serve_pair-requires-clause-lanes
serve_pair-requires-clause-lanes g c = c.self.invariant.0.own.are

pub serve_pair-requires-clause-reader : goal.serve_pair-requires-clause-reader
serve_pair-requires-clause-reader g c = c.self.invariant.0.named

pub serve_pair-requires-clause-ready : goal.serve_pair-requires-clause-ready
serve_pair-requires-clause-ready g c = c.self.invariant.1

pub invariant_of-self : goal.invariant_of-self
invariant_of-self g c =
    let s = c.self.inside in let n = c.serve_pair.new in (
      works_on g.L.Link g.J.DayNames.moment (g.C.Clock.moment s.clock.now) g.J.DayNames.roster g.J.DayNames.workers g.J.DayNames.first g.J.DayNames.book s.desk.now s.roster.now
          (list_read s.reader) (list_read n.reader) (length (seen s.reader)) (length (seen n.reader)) s.lanes.items n.lanes.items c.args.pass.now n.pass
          (pair_by g.A.In.Source g.A.Out.Sink c.args.pair.now) (pair_by g.A.In.Source g.A.Out.Sink n.pair) c.serve_pair.result
          c.self.invariant.0 c.requires.fresh c.requires.new c.serve_pair.ensures.lanes c.serve_pair.ensures.reader c.serve_pair.ensures.round,
      c.self.invariant.1,
    )

pub returns-clause-of : goal.returns-clause-of
returns-clause-of g c =
    let s = c.self.inside in let n = c.serve_pair.new in
    beside g.L.Link g.J.DayNames.moment (g.C.Clock.moment s.clock.now) g.J.DayNames.roster g.J.DayNames.workers g.J.DayNames.first g.J.DayNames.book s.desk.now s.roster.now
    (list_read s.reader) (list_read n.reader) (length (seen s.reader)) (length (seen n.reader)) s.lanes.items n.lanes.items c.args.pass.now n.pass
    (pair_by g.A.In.Source g.A.Out.Sink c.args.pair.now) (pair_by g.A.In.Source g.A.Out.Sink n.pair) c.serve_pair.result
    c.requires.fresh c.serve_pair.ensures.round

pub returns-clause-split : goal.returns-clause-split
returns-clause-split g c =
    let s = c.self.inside in let n = c.serve_pair.new in
    split_still g.L.Link g.J.DayNames.moment (g.C.Clock.moment s.clock.now) g.J.DayNames.roster g.J.DayNames.workers g.J.DayNames.first g.J.DayNames.book s.desk.now s.roster.now
    (list_read s.reader) (list_read n.reader) (length (seen s.reader)) (length (seen n.reader)) s.lanes.items n.lanes.items c.args.pass.now n.pass
    (pair_by g.A.In.Source g.A.Out.Sink c.args.pair.now) (pair_by g.A.In.Source g.A.Out.Sink n.pair) c.serve_pair.result
    c.requires.fresh c.serve_pair.ensures.round

pub returns-clause-served : goal.returns-clause-served
returns-clause-served g c =
    let s = c.self.inside in let n = c.serve_pair.new in
    served_in g.L.Link g.J.DayNames.moment (g.C.Clock.moment s.clock.now) g.J.DayNames.roster g.J.DayNames.workers g.J.DayNames.first g.J.DayNames.book s.desk.now s.roster.now
    (list_read s.reader) (list_read n.reader) (length (seen s.reader)) (length (seen n.reader)) s.lanes.items n.lanes.items c.args.pass.now n.pass
    (pair_by g.A.In.Source g.A.Out.Sink c.args.pair.now) (pair_by g.A.In.Source g.A.Out.Sink n.pair) c.serve_pair.result
    c.self.invariant.0 c.requires.fresh c.requires.new c.serve_pair.ensures.round

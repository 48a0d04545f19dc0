-- The loan of the sink ends with the connection.
use Rattle.std.proofs.Common.{rules, ◌≡◌, ap, ◌∙◌, sym}
use Rattle.std.specs.Borrow.{MutBor}
use Rattle.exchange_http.proofs.Served.{causes_lent, first_name, floor_so, held_alone, never_begun, other_names}
use Rattle.exchange_http.proofs.serving.serve_floor.Goals as goal

pub returns-in_default-clause-serves : goal.returns-in_default-clause-serves
returns-in_default-clause-serves g c =
    never_begun g.Y.DayDesk g.L.Link g.C.Clock c.args.floor.now (g.S.Source.tape c.args.source.now) (g.K.Sink.held c.args.sink.now) (g.met.Y.DayDesk.none c.args.floor.now.desk)

pub returns-in_default-new-clause-serves : goal.returns-in_default-new-clause-serves
returns-in_default-new-clause-serves g c =
    never_begun g.Y.DayDesk g.L.Link g.C.Clock c.args.floor.now (g.S.Source.tape c.args.source.now) (g.K.Sink.held c.args.sink.now) (g.met.Y.DayDesk.none c.args.floor.now.desk)

pub returns-in_default-room-clause-serves : goal.returns-in_default-room-clause-serves
returns-in_default-room-clause-serves g c =
    never_begun g.Y.DayDesk g.L.Link g.C.Clock c.args.floor.now (g.S.Source.tape c.args.source.now) (g.K.Sink.held c.args.sink.now) (g.met.Y.DayDesk.none c.args.floor.now.desk)

pub returns-clause-serves : goal.returns-clause-serves
returns-clause-serves g c =
    let o = c.serve_over-end.new.keeping.outlet in
    let old = c.keeping_over-keeping.result.outlet in
    let first = first_name o.sink.ghost_name old.sink.ghost_name (g.K.Sink.place o.sink.now) (g.K.Sink.place old.sink.now) c.serve_over-end.ensures.place in
    let back : c.close.result.now ≡ o.sink.now = ap (λ (b : MutBor _). b.now) c.close.ensures in
    let given : c.sink-1.given.0 ≡ c.close.result.now = c.sink-1.given.1 (search rules) in
    let sink : c.sink-1.given.0 ≡ o.sink.now = given ∙ back in
    let was : old.sink.now ≡ c.args.sink.now = search rules in
    floor_so g.Y.DayDesk g.L.Link g.C.Clock c.args.floor.now c.serve_over-end.new.floor (g.S.Source.tape c.args.source.now) (g.S.Source.tape c.serve_over-end.new.source) _ (g.K.Sink.held o.sink.now) (g.K.Sink.held c.args.sink.now) _ c.serve_over-end.result
    (held_alone (g.K.Sink.held old.sink.now) (g.K.Sink.held c.args.sink.now) _ (ap g.K.Sink.held was) c.keeping_over-keeping.ensures.settled.0) (ap g.K.Sink.held (sym sink)) c.serve_over-end.ensures.ends

pub returns-clause-causes : goal.returns-clause-causes
returns-clause-causes g c =
    let o = c.serve_over-end.new.keeping.outlet in
    let old = c.keeping_over-keeping.result.outlet in
    let first = first_name o.sink.ghost_name old.sink.ghost_name (g.K.Sink.place o.sink.now) (g.K.Sink.place old.sink.now) c.serve_over-end.ensures.place in
    let back : c.close.result.now ≡ o.sink.now = ap (λ (b : MutBor _). b.now) c.close.ensures in
    let given : c.sink-1.given.0 ≡ c.close.result.now = c.sink-1.given.1 (search rules) in
    let sink : c.sink-1.given.0 ≡ o.sink.now = given ∙ back in
    let was : old.sink.now ≡ c.args.sink.now = search rules in
    causes_lent (g.S.Source.faults c.args.source.now) (g.S.Source.faults c.serve_over-end.new.source) (g.K.Sink.faults c.args.sink.now) _ (g.K.Sink.faults old.sink.now) (g.K.Sink.faults o.sink.now) c.serve_over-end.result (ap g.K.Sink.faults was) (ap g.K.Sink.faults (sym sink)) c.serve_over-end.ensures.causes

pub returns-clause-sink : goal.returns-clause-sink
returns-clause-sink g c =
    let o = c.serve_over-end.new.keeping.outlet in
    let old = c.keeping_over-keeping.result.outlet in
    let first = first_name o.sink.ghost_name old.sink.ghost_name (g.K.Sink.place o.sink.now) (g.K.Sink.place old.sink.now) c.serve_over-end.ensures.place in
    let back : c.close.result.now ≡ o.sink.now = ap (λ (b : MutBor _). b.now) c.close.ensures in
    let given : c.sink-1.given.0 ≡ c.close.result.now = c.sink-1.given.1 (search rules) in
    let sink : c.sink-1.given.0 ≡ o.sink.now = given ∙ back in
    let was : old.sink.now ≡ c.args.sink.now = search rules in
    ap g.K.Sink.place sink ∙ other_names o.sink.ghost_name old.sink.ghost_name (g.K.Sink.place o.sink.now) (g.K.Sink.place old.sink.now) c.serve_over-end.ensures.place ∙ ap g.K.Sink.place was

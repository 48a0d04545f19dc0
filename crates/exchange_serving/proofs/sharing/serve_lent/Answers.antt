-- The loans of desk and lanes end with the connection.
use Rattle.std.proofs.Common.{rules, ◌≡◌, sym, ap}
use Rattle.exchange_messages.specs.Floors.{IsMomentOf}
use Rattle.exchange_http.proofs.Served.{first_name, other_names}
use Rattle.exchange_http.specs.Serving.{talked}
use Rattle.exchange_serving.proofs.Shared.{lent_behind, place_behind}
use Rattle.exchange_serving.proofs.sharing.serve_lent.Goals as goal

pub returns-clause-serves : goal.returns-clause-serves
returns-clause-serves g c =
    let f = c.serve_floor.new.floor in
    let desk_name = first_name _ _ _ _ c.serve_floor.ensures.kept.desk in
    let links_name = c.serve_floor.ensures.kept.lanes in
    let desk : c.desk-1.given.0 ≡ f.desk.desk.now = c.desk-1.given.1 (search rules) in
    let links : c.links-1.given.0 ≡ f.lanes.now = c.links-1.given.1 (search rules) in
    let s = c.serve_floor.ensures.serves in
    lent_behind g.Y.DayDesk g.L.Link (IsMomentOf (g.C.Clock.moment c.args.clock.now)) c.args.roster.now
    (talked (g.S.Source.tape c.args.source.now) (g.K.Sink.held c.args.sink.now)) (talked _ _) c.args.links.now.items c.args.desk.now c.serve_floor.result
    f.desk.desk.now _ f.lanes.now.items _ s.steps (sym desk) (ap (λ (v : _). v.items) (sym links)) s.ran s.ends

pub returns-clause-place : goal.returns-clause-place
returns-clause-place g c =
    let f = c.serve_floor.new.floor in
    let names = c.serve_floor.ensures.kept.desk in
    let desk_name = first_name _ _ _ _ names in
    let desk : c.desk-1.given.0 ≡ f.desk.desk.now = c.desk-1.given.1 (search rules) in
    place_behind g.Y.DayDesk g.L.Link (IsMomentOf (g.C.Clock.moment c.args.clock.now)) c.args.roster.now
    (talked (g.S.Source.tape c.args.source.now) (g.K.Sink.held c.args.sink.now)) (talked (g.S.Source.tape c.args.source.now) (g.K.Sink.held c.args.sink.now)) c.args.links.now.items c.args.desk.now c.serve_floor.result
    f.desk.desk.now _ (sym desk) (other_names _ _ _ _ names)

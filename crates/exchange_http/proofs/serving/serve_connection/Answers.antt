-- The loans of desk and lanes end with the connection.
use Rattle.std.proofs.Common.{rules, ◌≡◌, sym, ap}
use Rattle.exchange_messages.specs.Floors.{IsMomentOf}
use Rattle.exchange_http.proofs.Served.{ended_behind, first_name, lasts_behind}
use Rattle.exchange_http.specs.Serving.{talked}
use Rattle.exchange_http.proofs.serving.serve_connection.Goals as goal

pub returns-clause-serves : goal.returns-clause-serves
returns-clause-serves g c =
    let f = c.serve_floor.new.floor in
    let desk_name = first_name _ _ _ _ c.serve_floor.ensures.kept.desk in
    let links_name = c.serve_floor.ensures.kept.lanes in
    let desk : c.desk-1.given.0 ≡ f.desk.desk.now = c.desk-1.given.1 (search rules) in
    let links : c.links-1.given.0 ≡ f.lanes.now = c.links-1.given.1 (search rules) in
    let s = c.serve_floor.ensures.serves in
    ended_behind g.D.Disk g.L.Link (IsMomentOf (g.C.Clock.moment c.args.clock.now)) c.args.roster.now c.args.desk.now f.desk.desk.now _ c.args.links.now.items f.lanes.now.items _
    (talked (g.S.Source.tape c.args.source.now) (g.K.Sink.held c.args.sink.now)) (talked _ _) c.serve_floor.result
    (sym desk) (ap (λ (v : _). v.items) (sym links)) c.entries-entries.ensures.legal.legal s.steps s.ran s.ends

pub returns-clause-lasts : goal.returns-clause-lasts
returns-clause-lasts g c =
    let f = c.serve_floor.new.floor in
    let desk_name = first_name _ _ _ _ c.serve_floor.ensures.kept.desk in
    let desk : c.desk-1.given.0 ≡ f.desk.desk.now = c.desk-1.given.1 (search rules) in
    lasts_behind g.D.Disk c.args.desk.now f.desk.desk.now _ (sym desk) c.serve_floor.ensures.serves.ran.lasts

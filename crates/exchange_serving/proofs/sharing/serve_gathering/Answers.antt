-- The loans of pass and reader end with the connection.
use Rattle.std.proofs.Common.{rules, ◌≡◌, sym, ap, ◌∙◌}
use Rattle.exchange_messages.specs.Floors.{IsMomentOf}
use Rattle.exchange_http.proofs.Served.{first_name, other_names}
use Rattle.exchange_http.specs.Serving.{talked}
use Rattle.shared_desk.specs.Passes.{viewed}
use Rattle.exchange_serving.proofs.Shared.{shared_behind}
use Rattle.exchange_serving.proofs.sharing.serve_gathering.Goals as goal

pub returns-clause-serves : goal.returns-clause-serves
returns-clause-serves g c =
    let d = c.serve_lent.new.desk in
    let names = c.serve_lent.ensures.place in
    let pass_name = first_name _ _ _ _ names in
    let view_name = first_name _ _ _ _ (other_names _ _ _ _ names) in
    let pass : c.pass-1.given.0 ≡ d.pass.now = c.pass-1.given.1 (search rules) in
    let meters : c.meters-1.given.0 ≡ d.view.now = c.meters-1.given.1 (search rules) in
    let s = c.serve_lent.ensures.serves in
    shared_behind g.L.Link (IsMomentOf (g.C.Clock.moment c.args.clock.now)) c.args.roster
    (talked (g.S.Source.tape c.args.source.now) (g.K.Sink.held c.args.sink.now)) (talked _ _) c.args.links.now.items c.serve_lent.new.links.items c.args.pass.now
    (viewed (g.M.MeterView.origin c.args.meters.now) (g.M.MeterView.seen c.args.meters.now)) c.serve_lent.result
    d.roster d.pass.now _ (viewed (g.M.MeterView.origin d.view.now) (g.M.MeterView.seen d.view.now)) _ s.steps
    (sym pass) (ap g.M.MeterView.seen (sym meters)) s.ran s.ends

pub returns-clause-origin : goal.returns-clause-origin
returns-clause-origin g c =
    let d = c.serve_lent.new.desk in
    let view_name = first_name _ _ _ _ (other_names _ _ _ _ c.serve_lent.ensures.place) in
    let meters : c.meters-1.given.0 ≡ d.view.now = c.meters-1.given.1 (search rules) in
    ap g.M.MeterView.origin meters ∙ c.serve_lent.ensures.serves.ran.origin

-- The loans of pass and reader end with the connection.
use Rattle.std.proofs.Common.{rules, ◌≡◌, sym, ap, ◌∙◌}
use Rattle.exchange_messages.specs.Floors.{IsMomentOf}
use Rattle.exchange_http.proofs.Served.{first_name, other_names}
use Rattle.exchange_http.specs.Serving.{talked}
use Rattle.meter_board.specs.Words.{list_read, seen}
use Rattle.shared_desk.specs.Passes.{viewed}
use Rattle.exchange_serving.proofs.Shared.{shown_behind}
use Rattle.exchange_serving.proofs.showing.serve_showing.Goals as goal

pub returns-clause-serves : goal.returns-clause-serves
returns-clause-serves g c =
    let d = c.serve_lent-end.new.desk in
    let names = c.serve_lent-end.ensures.place in
    let pass_name = first_name _ _ _ _ names in
    let view_name = first_name _ _ _ _ (other_names _ _ _ _ names) in
    let pass : c.pass-1.given.0 ≡ d.own.pass.now = c.pass-1.given.1 (search rules) in
    let view : c.reader-1.given.0 ≡ d.own.view.now = c.reader-1.given.1 (search rules) in
    let s = c.serve_lent-end.ensures.serves in
    shown_behind g.L.Link (IsMomentOf (g.C.Clock.moment c.args.clock.now)) c.args.roster
    (talked (g.S.Source.tape c.args.source.now) (g.K.Sink.held c.args.sink.now)) (talked _ _) c.args.links.now.items c.serve_lent-end.new.links.items c.args.pass.now
    (viewed (list_read c.args.reader.now) (seen c.args.reader.now)) c.serve_lent-end.result d.short
    d.own.roster d.own.pass.now _ (viewed (list_read d.own.view.now) (seen d.own.view.now)) _ s.steps
    (sym pass) (ap seen (sym view)) s.ran s.ends

pub returns-clause-reader : goal.returns-clause-reader
returns-clause-reader g c =
    let d = c.serve_lent-end.new.desk in
    let view_name = first_name _ _ _ _ (other_names _ _ _ _ c.serve_lent-end.ensures.place) in
    let view : c.reader-1.given.0 ≡ d.own.view.now = c.reader-1.given.1 (search rules) in
    ap list_read view ∙ c.serve_lent-end.ensures.serves.ran.ran.origin

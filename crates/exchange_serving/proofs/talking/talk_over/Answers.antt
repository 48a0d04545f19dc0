-- The loan of the source ends with the connection.
use Rattle.std.proofs.Common.{rules, ◌≡◌, subst, sym}
use Rattle.exchange_http.proofs.Served.{first_name}
use Rattle.exchange_http.specs.Serving.{talked}
use Rattle.exchange_messages.specs.Floors.{IsMomentOf}
use Rattle.exchange_serving.specs.Showing.{ServesShown}
use Rattle.meter_board.specs.Words.{seen}
use Rattle.exchange_serving.proofs.talking.talk_over.Goals as goal

pub returns-clause-serves : goal.returns-clause-serves
returns-clause-serves g c =
    let shown = c.serve_showing in
    let name = first_name _ _ _ _ shown.ensures.source in
    let source : c.source-1.given.0 ≡ shown.new.source.source.now = c.source-1.given.1 (search rules) in
    subst (λ (s : g.row.S.Denot). ServesShown g.L.Link (IsMomentOf (g.C.Clock.moment c.args.clock.now)) c.args.roster.now
    (talked (g.S.Source.tape c.args.source.now) (g.K.Sink.held c.args.sink.now)) (talked (g.S.Source.tape s) (g.K.Sink.held shown.new.sink))
    c.args.lanes.now.items shown.new.links.items c.args.pass.now shown.new.pass (seen c.args.reader.now) (seen shown.new.reader) shown.result.end shown.result.short)
    (sym source) shown.ensures.serves

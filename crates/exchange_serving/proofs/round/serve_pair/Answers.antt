use Rattle.std.proofs.Common.{Bool, ◌||◌, not, length, sym, ap, subst}
use Rattle.adx_links.specs.Told.{pair_by}
use Rattle.exchange_messages.specs.Floors.{IsMomentOf}
use Rattle.meter_board.specs.Words.{seen}
use Rattle.exchange_serving.specs.Rounds.{IsRound}
use Rattle.exchange_serving.proofs.Rounds.{served_between, unserved}
use Rattle.exchange_serving.proofs.round.serve_pair.Goals as goal

pub returns-then-not-show-clause-round : goal.returns-then-not-show-clause-round
returns-then-not-show-clause-round g c =
    unserved g.L.Link (IsMomentOf (g.C.Clock.moment c.args.clock.now)) c.args.roster.now c.args.desk.now.fixed c.args.pass.now c.show.new.pass (pair_by g.S.Source g.K.Sink c.args.pair.now) c.args.lanes.now.items
    (seen c.args.reader.now) (seen c.show.new.reader) c.requires.opened c.recall.ensures.right c.show.ensures.pass c.show.ensures.turns c.show.ensures.later c.show.ensures.read

pub returns-clause-round : goal.returns-clause-round
returns-clause-round g c =
    let missed = c.talk-talked.result.short in
    subst (λ (b : Bool). IsRound g.L.Link (IsMomentOf (g.C.Clock.moment c.args.clock.now)) c.args.roster.now c.args.pass.now c.show-shown.new.pass
    (pair_by g.S.Source g.K.Sink c.args.pair.now) (pair_by g.S.Source g.K.Sink (c.talk-talked.new.source, c.talk-talked.new.sink)) c.args.lanes.now.items c.talk-talked.new.lanes.items
    (length (seen c.args.reader.now)) (length (seen c.show-shown.new.reader)) b)
    (ap (λ (b : Bool). (not c.show-shown.result || missed) || b) (sym c.is_short.ensures))
    (served_between g.L.Link (IsMomentOf (g.C.Clock.moment c.args.clock.now)) c.args.roster.now c.args.desk.now.fixed c.args.pass.now c.show.new.pass c.talk-talked.new.pass c.show-shown.new.pass
    (pair_by g.S.Source g.K.Sink c.args.pair.now) (pair_by g.S.Source g.K.Sink (c.talk-talked.new.source, c.talk-talked.new.sink)) c.args.lanes.now.items c.talk-talked.new.lanes.items
    (seen c.args.reader.now) (seen c.show.new.reader) (seen c.talk-talked.new.reader) (seen c.show-shown.new.reader) c.talk-talked.result.end c.show-shown.result missed c.requires.opened c.recall-2.ensures.right
    c.show.ensures.pass c.show.ensures.turns c.show.ensures.later c.show.ensures.read (c.show.ensures.shown c.if-not-show.false) c.talk-talked.ensures.serves c.talk-talked.ensures.whole c.talk-talked.ensures.causes
    c.show-shown.ensures.pass c.show-shown.ensures.turns c.show-shown.ensures.later c.show-shown.ensures.read c.show-shown.ensures.shown)

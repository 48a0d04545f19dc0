-- The piece went to the sink, whole or a front of it.
use Rattle.std.proofs.Common.{refl}
use Rattle.adx_http.proofs.Holding.{passed, half_passed}
use Rattle.adx_http.proofs.gathered.Gathered.pass.Goals as goal

pub returns-in-Ok-clause-holds : goal.returns-in-Ok-clause-holds
returns-in-Ok-clause-holds g c = λ old before bytes h.
    passed old (g.K.Sink.held c.args.sink.now) (g.K.Sink.held c.put_all.new.sink) before (g.K.Sink.faults c.args.sink.now) (g.K.Sink.faults c.put_all.new.sink) c.args.self.now _ bytes c.args.piece.now c.requires.sound c.requires.none c.requires.sound refl c.in-Ok.ensures.taken c.in-Ok.ensures.cause.passed h

pub returns-in-Err-clause-holds : goal.returns-in-Err-clause-holds
returns-in-Err-clause-holds g c = λ old before bytes h.
    half_passed old (g.K.Sink.held c.args.sink.now) (g.K.Sink.held c.put_all.new.sink) before (g.K.Sink.faults c.args.sink.now) (g.K.Sink.faults c.put_all.new.sink) c.in-Err.ensures.taken.0 c.args.self.now _ bytes c.args.piece.now c.requires.sound c.requires.none refl c.in-Err.ensures.taken.2 c.in-Err.ensures.cause.failed c.in-Err.ensures.cause.later h

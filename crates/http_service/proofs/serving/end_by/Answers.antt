-- A fault that has a reply isn't the source's.
use Rattle.std.proofs.Common.{refl}
use Rattle.http_grammar.specs.declared.fault.HttpFault.{HttpFault}
use Rattle.http_service.proofs.Written.{refused_causes}
use Rattle.http_service.proofs.serving.end_by.Goals as goal

pub returns-in-BadHead-clause-causes : goal.returns-in-BadHead-clause-causes
returns-in-BadHead-clause-causes g c =
    λ before now r. refused_causes before now (g.K.Sink.faults c.args.sink.now) (g.K.Sink.faults c.refuse.new.sink) c.args.fault HttpFault.BadHead 400 c.refuse.result c.in-BadHead.is refl c.refuse.ensures.causes r

pub returns-in-HeadTooLong-clause-causes : goal.returns-in-HeadTooLong-clause-causes
returns-in-HeadTooLong-clause-causes g c =
    λ before now r. refused_causes before now (g.K.Sink.faults c.args.sink.now) (g.K.Sink.faults c.refuse-in-HeadTooLong.new.sink) c.args.fault HttpFault.HeadTooLong 431 c.refuse-in-HeadTooLong.result c.in-HeadTooLong.is refl c.refuse-in-HeadTooLong.ensures.causes r

pub returns-in-LengthRequired-clause-causes : goal.returns-in-LengthRequired-clause-causes
returns-in-LengthRequired-clause-causes g c =
    λ before now r. refused_causes before now (g.K.Sink.faults c.args.sink.now) (g.K.Sink.faults c.refuse-in-LengthRequired.new.sink) c.args.fault HttpFault.LengthRequired 411 c.refuse-in-LengthRequired.result c.in-LengthRequired.is refl c.refuse-in-LengthRequired.ensures.causes r

pub returns-in-BodyTooLong-clause-causes : goal.returns-in-BodyTooLong-clause-causes
returns-in-BodyTooLong-clause-causes g c =
    λ before now r. refused_causes before now (g.K.Sink.faults c.args.sink.now) (g.K.Sink.faults c.refuse-in-BodyTooLong.new.sink) c.args.fault HttpFault.BodyTooLong 413 c.refuse-in-BodyTooLong.result c.in-BodyTooLong.is refl c.refuse-in-BodyTooLong.ensures.causes r

pub returns-in-BadChunk-clause-causes : goal.returns-in-BadChunk-clause-causes
returns-in-BadChunk-clause-causes g c =
    λ before now r. refused_causes before now (g.K.Sink.faults c.args.sink.now) (g.K.Sink.faults c.refuse-in-BadChunk.new.sink) c.args.fault HttpFault.BadChunk 400 c.refuse-in-BadChunk.result c.in-BadChunk.is refl c.refuse-in-BadChunk.ensures.causes r

pub returns-in-Coding-clause-causes : goal.returns-in-Coding-clause-causes
returns-in-Coding-clause-causes g c =
    λ before now r. refused_causes before now (g.K.Sink.faults c.args.sink.now) (g.K.Sink.faults c.refuse-in-Coding.new.sink) c.args.fault HttpFault.Coding 415 c.refuse-in-Coding.result c.in-Coding.is refl c.refuse-in-Coding.ensures.causes r

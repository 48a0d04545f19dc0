-- Some front of the refusal was taken.
use Rattle.http_service.proofs.Written.{front_of}
use Rattle.http_service.proofs.serving.refuse.Goals as goal

pub returns-in-Err-clause-ends : goal.returns-in-Err-clause-ends
returns-in-Err-clause-ends g c = record {
  status = c.args.status;
  answered = c.requires;
  took = front_of (g.K.Sink.held c.args.sink.now) (g.K.Sink.held c.write_refusal.new.sink) _ c.in-Err.ensures.taken.0 c.in-Err.ensures.taken.2;
}

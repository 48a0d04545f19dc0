-- The messages so far were served, and nothing failed.
use Rattle.std.proofs.Common.{◌≡◌, false}
use Rattle.http_service.specs.Steps.{Runs}
use Rattle.http_service.specs.declared.limits.TheConstants.{REQUEST_LIMIT}
use Rattle.http_service.proofs.serving.serve_messages.Given as goal

abbrev pub invariant-messages : goal.invariant-messages
invariant-messages g l = record {
  sound : l.conn.failed ≡ false;
  limit : l.conn.limit ≡ REQUEST_LIMIT;
  runs : Runs g.V.Service.answers REQUEST_LIMIT l._served l.conn.held (g.S.Source.tape l.initial.source) (g.S.Source.tape l.source) (g.K.Sink.held l.initial.sink) (g.K.Sink.held l.sink) l.initial.service l.service;
  read : g.S.Source.faults l.source ≡ g.S.Source.faults l.initial.source;
  write : g.K.Sink.faults l.sink ≡ g.K.Sink.faults l.initial.sink;
  service : g.V.Service.place l.service ≡ g.V.Service.place l.initial.service;
  source : g.S.Source.place l.source ≡ g.S.Source.place l.initial.source;
  sink : g.K.Sink.place l.sink ≡ g.K.Sink.place l.initial.sink;
}

-- The connection goes on by its steps, and ends.
use Rattle.std.proofs.Common.{ℕ, Some, None, refl, subst, ◌∙◌, arith}
use Rattle.http_service.specs.Steps.{StepGives}
use Rattle.http_service.specs.declared.limits.TheConstants.{REQUEST_LIMIT}
use Rattle.http_service.proofs.Running.{runs_end, runs_more, runs_spent}
use Rattle.http_service.proofs.serving.serve_messages.Goals as goal

pub returns-in-Some-clause-ends : goal.returns-in-Some-clause-ends
returns-in-Some-clause-ends g c =
    runs_end g.V.Service.answers g.V.Service.gives_up REQUEST_LIMIT c.messages._served c.messages.conn.held c.serve_next.new.conn.held (g.S.Source.tape c.args.source.now) (g.S.Source.tape c.messages.source) (g.S.Source.tape c.serve_next.new.source) (g.K.Sink.held c.args.sink.now) (g.K.Sink.held c.messages.sink) (g.K.Sink.held c.serve_next.new.sink) c.args.service.now c.messages.service c.serve_next.new.service c.in-Some.end
    c.messages.invariant.runs c.messages-test.true
    (subst (λ (n : ℕ). StepGives g.V.Service.answers g.V.Service.gives_up n c.messages.conn.held c.serve_next.new.conn.held (g.S.Source.tape c.messages.source) (g.S.Source.tape c.serve_next.new.source) (g.K.Sink.held c.messages.sink) (g.K.Sink.held c.serve_next.new.sink) c.messages.service c.serve_next.new.service (Some c.in-Some.end)) c.messages.invariant.limit c.in-Some.ensures.gives)

pub messages-preserved : goal.messages-preserved
messages-preserved g c = record {
  sound = c.in-None.ensures.sound refl;
  limit = c.in-None.ensures.limit ∙ c.messages.invariant.limit;
  runs =
      runs_more g.V.Service.answers g.V.Service.gives_up REQUEST_LIMIT c.messages._served c.messages.conn.held c.serve_next.new.conn.held (g.S.Source.tape c.args.source.now) (g.S.Source.tape c.messages.source) (g.S.Source.tape c.serve_next.new.source) (g.K.Sink.held c.args.sink.now) (g.K.Sink.held c.messages.sink) (g.K.Sink.held c.serve_next.new.sink) c.args.service.now c.messages.service c.serve_next.new.service
      c.messages.invariant.runs
      (subst (λ (n : ℕ). StepGives g.V.Service.answers g.V.Service.gives_up n c.messages.conn.held c.serve_next.new.conn.held (g.S.Source.tape c.messages.source) (g.S.Source.tape c.serve_next.new.source) (g.K.Sink.held c.messages.sink) (g.K.Sink.held c.serve_next.new.sink) c.messages.service c.serve_next.new.service None) c.messages.invariant.limit c.in-None.ensures.gives);
  read = c.in-None.ensures.causes.0 ∙ c.messages.invariant.read;
  write = c.in-None.ensures.causes.1 ∙ c.messages.invariant.write;
  service = c.in-None.ensures.service ∙ c.messages.invariant.service;
  source = c.in-None.ensures.source ∙ c.messages.invariant.source;
  sink = c.in-None.ensures.sink ∙ c.messages.invariant.sink;
}

pub returns-clause-ends : goal.returns-clause-ends
returns-clause-ends g c =
    runs_spent g.V.Service.answers g.V.Service.gives_up REQUEST_LIMIT c.messages._served c.messages.conn.held (g.S.Source.tape c.args.source.now) (g.S.Source.tape c.messages.source) (g.K.Sink.held c.args.sink.now) (g.K.Sink.held c.messages.sink) c.args.service.now c.messages.service
    c.messages.invariant.runs (omega (arith, c.messages-test.false, c.messages.auto._served-end))

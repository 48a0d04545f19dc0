-- What the next message gave, by what the connection answered.
use Rattle.std.proofs.Common.{Ok, ap, ◌∙◌}
use Rattle.http_service.proofs.Steps.{fault_by, served_by}
use Rattle.http_service.proofs.Written.{step_causes}
use Rattle.http_service.proofs.serving.serve_next.Goals as goal

pub returns-in-Ok-Some-clause-gives : goal.returns-in-Ok-Some-clause-gives
returns-in-Ok-Some-clause-gives g c =
    served_by g.V.Service.answers g.V.Service.gives_up c.args.conn.now c.next_message.follows.lender-at-none (g.S.Source.tape c.args.source.now) (g.S.Source.tape c.next_message.new.source) (g.K.Sink.held c.args.sink.now) (g.K.Sink.held c.serve_message.new.sink) c.args.service.now c.serve_message.new.service c.next_message.result c.in-Ok-Some.message c.serve_message.result
    (c.in-Ok-Some.is ∙ ap Ok c.in-Ok-Some.field-0-is) c.requires.sound c.next_message.follows.holds-at-none c.serve_message.ensures.ends

pub returns-in-Ok-Some-clause-causes : goal.returns-in-Ok-Some-clause-causes
returns-in-Ok-Some-clause-causes g c =
    step_causes (g.S.Source.faults c.args.source.now) (g.S.Source.faults c.next_message.new.source) (g.K.Sink.faults c.args.sink.now) (g.K.Sink.faults c.serve_message.new.sink) c.serve_message.result c.in-Ok-Some.ensures.cause c.serve_message.ensures.causes

pub returns-in-Err-clause-gives : goal.returns-in-Err-clause-gives
returns-in-Err-clause-gives g c =
    fault_by g.V.Service.answers g.V.Service.gives_up c.args.conn.now c.next_message.follows.lender-at-none (g.S.Source.tape c.args.source.now) (g.S.Source.tape c.next_message.new.source) (g.K.Sink.held c.args.sink.now) (g.K.Sink.held c.end_by.new.sink) c.args.service.now c.next_message.result c.in-Err.fault c.end_by.result
    c.in-Err.is c.requires.sound c.next_message.follows.holds-at-none c.end_by.ensures.ends

pub returns-in-Err-clause-causes : goal.returns-in-Err-clause-causes
returns-in-Err-clause-causes g c = c.end_by.ensures.causes (g.S.Source.faults c.args.source.now) (g.S.Source.faults c.next_message.new.source) c.in-Err.ensures.cause

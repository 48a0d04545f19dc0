-- The body joins the head that was kept.
use Rattle.std.proofs.Common.{Ok, Err, refl, sym, subst}
use Rattle.http_grammar.specs.Judged.{IsSoundRequest}
use Rattle.http_connection.specs.Steps.{BodyGives, FitsBody}
use Rattle.http_connection.proofs.Heads.{body_room}
use Rattle.http_connection.proofs.Requests.{request_fits, request_found, body_refused}
use Rattle.http_connection.proofs.request.request_behind.Goals as goal

pub read_body-requires-clause-room : goal.read_body-requires-clause-room
read_body-requires-clause-room g c = body_room c.args.buffer.now c.keep.new.self c.args.head c.args.limit c.requires.alone c.requires.head.has c.keep.ensures c.requires.room

pub read_body-requires-clause-fits : goal.read_body-requires-clause-fits
read_body-requires-clause-fits g c =
    subst (FitsBody c.args.limit) (sym c.body_of_request.ensures) (request_fits c.args.limit c.args.parts.framing (IsSoundRequest.fits c.requires.head.says.has.sound))

pub returns-in-Ok-clause-gives : goal.returns-in-Ok-clause-gives
returns-in-Ok-clause-gives g c =
    let found = request_found c.args.limit c.args.head c.args.buffer.now c.keep.new.self c.read_body.new.buffer (g.S.Source.tape c.args.source.now) (g.S.Source.tape c.read_body.new.source) c.args.parts
    (record { verb = c.args.parts.verb; target = c.args.parts.target; keep = c.args.parts.keep; head = c.args.head }) c.requires.alone c.requires.head c.keep.ensures
    (subst (λ b. BodyGives c.args.limit b c.keep.new.self c.read_body.new.buffer (g.S.Source.tape c.args.source.now) (g.S.Source.tape c.read_body.new.source) (Ok tt)) c.body_of_request.ensures c.in-Ok.ensures.gives)
    refl refl refl refl in
    (record { head = found.0; start = c.requires.target.0; end = c.requires.target.1 }, found.1)

pub returns-in-Err-clause-gives : goal.returns-in-Err-clause-gives
returns-in-Err-clause-gives g c =
    body_refused c.args.limit c.args.head c.args.buffer.now c.keep.new.self c.read_body.new.buffer (g.S.Source.tape c.args.source.now) (g.S.Source.tape c.read_body.new.source) c.in-Err.wrong c.args.parts c.requires.head c.keep.ensures
    (subst (λ b. BodyGives c.args.limit b c.keep.new.self c.read_body.new.buffer (g.S.Source.tape c.args.source.now) (g.S.Source.tape c.read_body.new.source) (Err c.in-Err.wrong)) c.body_of_request.ensures c.in-Err.ensures.gives)

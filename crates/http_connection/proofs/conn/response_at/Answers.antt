-- The head says this and the body joins it, or one of them is refused.
use Rattle.std.proofs.Common.{ℕ, List, Ok, Err, length, take, ap, sym, subst, ◌∙◌}
use Rattle.httparse.specs.Grammar.{status_code}
use Rattle.http_grammar.specs.Requests as grammar
use Rattle.http_connection.specs.Steps.{BodyGives, FitsBody}
use Rattle.http_connection.proofs.Heads.{body_room}
use Rattle.http_connection.proofs.Responses.{response_fits, response_found, head_refused, body_refused}
use Rattle.http_connection.proofs.conn.response_at.Goals as goal

pub read_body-requires-clause-room : goal.read_body-requires-clause-room
read_body-requires-clause-room g c = body_room c.args.buffer.now c.keep.new.self c.args.head c.args.limit c.requires.alone c.requires.head c.keep.ensures c.requires.room

pub read_body-requires-clause-fits : goal.read_body-requires-clause-fits
read_body-requires-clause-fits g c =
    subst (FitsBody c.args.limit) (sym c.body_of_response.ensures) (response_fits c.args.limit (status_code (grammar.SaysResponse.h c.in-Ok.ensures)) (grammar.response_pairs (grammar.SaysResponse.h c.in-Ok.ensures)) c.in-Ok.parts.framing (grammar.SaysResponse.sound c.in-Ok.ensures))

pub returns-in-Ok-read_body-clause-gives : goal.returns-in-Ok-read_body-clause-gives
returns-in-Ok-read_body-clause-gives g c =
    response_found c.args.limit c.args.head c.args.buffer.now c.keep.new.self c.read_body.new.buffer (g.S.Source.tape c.args.source.now) (g.S.Source.tape c.read_body.new.source) c.in-Ok.parts c.requires.alone c.requires.head
    (subst (λ (b : List ℕ). grammar.SaysResponse c.args.limit b c.in-Ok.parts) (c.front.ensures ∙ ap (take c.args.head) c.pending.ensures) c.in-Ok.ensures) c.keep.ensures
    (subst (λ b. BodyGives c.args.limit b c.keep.new.self c.read_body.new.buffer (g.S.Source.tape c.args.source.now) (g.S.Source.tape c.read_body.new.source) (Ok tt)) c.body_of_response.ensures c.in-Ok-read_body.ensures.gives)

pub returns-in-Err-read_body-clause-gives : goal.returns-in-Err-read_body-clause-gives
returns-in-Err-read_body-clause-gives g c =
    body_refused c.args.limit c.args.head c.args.buffer.now c.keep.new.self c.read_body.new.buffer (g.S.Source.tape c.args.source.now) (g.S.Source.tape c.read_body.new.source) c.in-Err-read_body.wrong c.in-Ok.parts c.requires.head
    (subst (λ (b : List ℕ). grammar.SaysResponse c.args.limit b c.in-Ok.parts) (c.front.ensures ∙ ap (take c.args.head) c.pending.ensures) c.in-Ok.ensures) c.keep.ensures
    (subst (λ b. BodyGives c.args.limit b c.keep.new.self c.read_body.new.buffer (g.S.Source.tape c.args.source.now) (g.S.Source.tape c.read_body.new.source) (Err c.in-Err-read_body.wrong)) c.body_of_response.ensures c.in-Err-read_body.ensures.gives)

pub returns-in-Err-clause-gives : goal.returns-in-Err-clause-gives
returns-in-Err-clause-gives g c =
    head_refused c.args.limit c.args.head c.args.buffer.now (g.S.Source.tape c.args.source.now) c.in-Err.refusal c.requires.head
    (subst (λ (n : ℕ). grammar.RefusesResponse n c.args.limit (take c.args.head c.args.buffer.now.pending) c.in-Err.refusal) c.requires.spans
    (subst (λ (b : List ℕ). grammar.RefusesResponse (length c.args.spans.now) c.args.limit b c.in-Err.refusal) (c.front.ensures ∙ ap (take c.args.head) c.pending.ensures) c.in-Err.ensures))

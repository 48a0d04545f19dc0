-- The head says this, or is refused.
use Rattle.std.proofs.Common.{ℕ, List, length, take, ap, subst, ◌∙◌}
use Rattle.http_grammar.specs.Requests as grammar
use Rattle.http_connection.proofs.Heads.{within_head}
use Rattle.http_connection.proofs.Requests.{head_refused}
use Rattle.http_connection.proofs.request.request_at.Goals as goal

pub request_behind-requires-clause-head : goal.request_behind-requires-clause-head
request_behind-requires-clause-head g c = record {
  has = c.requires.head;
  says = subst (λ (b : List ℕ). grammar.SaysRequest c.args.limit b c.in-Ok.parts) (c.front.ensures ∙ ap (take c.args.head) c.pending.ensures) c.in-Ok.ensures.exact;
}

pub request_behind-requires-clause-target : goal.request_behind-requires-clause-target
request_behind-requires-clause-target g c =
    (c.in-Ok.ensures.within.0, within_head c.args.buffer.now.pending c.front.result.now c.args.head c.in-Ok.parts.target.end (c.front.ensures ∙ ap (take c.args.head) c.pending.ensures) c.requires.head c.in-Ok.ensures.within.1)

pub returns-in-Err-clause-gives : goal.returns-in-Err-clause-gives
returns-in-Err-clause-gives g c =
    head_refused c.args.limit c.args.head c.args.buffer.now (g.S.Source.tape c.args.source.now) c.in-Err.refusal c.requires.head
    (subst (λ (n : ℕ). grammar.RefusesRequest n c.args.limit (take c.args.head c.args.buffer.now.pending) c.in-Err.refusal) c.requires.spans
    (subst (λ (b : List ℕ). grammar.RefusesRequest (length c.args.spans.now) c.args.limit b c.in-Err.refusal) (c.front.ensures ∙ ap (take c.args.head) c.pending.ensures) c.in-Err.ensures.exact))

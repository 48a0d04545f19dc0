-- A head that the parser found at the front is the one that ends there.
use Rattle.std.proofs.Common.{ℕ, List, length, subst, arith}
use Rattle.http_grammar.specs.Requests as grammar
use Rattle.http_connection.proofs.First.{first_found, first_refused}
use Rattle.http_connection.proofs.request.advance_held.Goals as goal

pub request_behind-requires-clause-head : goal.request_behind-requires-clause-head
request_behind-requires-clause-head g c =
    first_found c.args.limit c.args.buffer.now.pending c.in-Some.first c.in-Ok.parts
    (subst (λ (n : ℕ). grammar.BeginsWithRequest n c.args.limit c.args.buffer.now.pending c.in-Some.first) c.requires.spans
    (subst (λ (b : List ℕ). grammar.BeginsWithRequest (length c.args.spans.now) c.args.limit b c.in-Some.first) c.pending.ensures c.in-Some.ensures.exact))
    (omega arith) c.in-Ok.is (rw c.in-Ok.is at c.in-Some.ensures.target)

pub returns-in-Err-clause-gives : goal.returns-in-Err-clause-gives
returns-in-Err-clause-gives g c =
    first_refused c.args.limit c.args.buffer.now (g.S.Source.tape c.args.source.now) c.in-Some.first c.in-Err.refusal
    (subst (λ (n : ℕ). grammar.BeginsWithRequest n c.args.limit c.args.buffer.now.pending c.in-Some.first) c.requires.spans
    (subst (λ (b : List ℕ). grammar.BeginsWithRequest (length c.args.spans.now) c.args.limit b c.in-Some.first) c.pending.ensures c.in-Some.ensures.exact))
    (omega arith) c.in-Err.is

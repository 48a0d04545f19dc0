-- The head that the parser finds is refused, or past the bound, or its body decides.
use Rattle.std.proofs.Common.{ℕ, List, drop, subst, arith}
use Rattle.http_grammar.specs.Requests as grammar
use Rattle.http_connection.specs.BodyForms.{HasBody, LacksBody}
use Rattle.http_connection.proofs.First.{first_found}
use Rattle.http_connection.proofs.Readies.{bad_first, lacks_body, not_begun, too_long}
use Rattle.http_connection.proofs.whole.whole_in.Goals as goal

pub returns-then-first-gt-HEAD_LIMIT-clause-exact : goal.returns-then-first-gt-HEAD_LIMIT-clause-exact
returns-then-first-gt-HEAD_LIMIT-clause-exact c =
    too_long c.args.limit c.args.bytes.now c.in-Some.first (subst (λ (n : ℕ). grammar.BeginsWithRequest n c.args.limit c.args.bytes.now c.in-Some.first) c.requires c.in-Some.ensures.exact) (omega (arith, c.if-first-gt-HEAD_LIMIT.true))

pub returns-then-has_body-clause-exact : goal.returns-then-has_body-clause-exact
returns-then-has_body-clause-exact c = record {
  head = first_found c.args.limit c.args.bytes.now c.in-Some.first c.in-Ok.parts (subst (λ (n : ℕ). grammar.BeginsWithRequest n c.args.limit c.args.bytes.now c.in-Some.first) c.requires c.in-Some.ensures.exact)
      (omega (arith, c.if-first-gt-HEAD_LIMIT.false)) c.in-Ok.is (rw c.in-Ok.is at c.in-Some.ensures.target);
  body = subst (λ b. HasBody c.args.limit b (drop c.in-Some.first.len c.args.bytes.now)) c.body_of_request.ensures
      (subst (λ (l : List ℕ). HasBody c.args.limit c.body_of_request.result l) c.split_at.ensures.back c.if-has_body.ensures);
}

pub returns-else-has_body-clause-exact : goal.returns-else-has_body-clause-exact
returns-else-has_body-clause-exact c =
    lacks_body c.args.limit c.args.bytes.now c.in-Some.first.len c.in-Ok.parts
    (first_found c.args.limit c.args.bytes.now c.in-Some.first c.in-Ok.parts (subst (λ (n : ℕ). grammar.BeginsWithRequest n c.args.limit c.args.bytes.now c.in-Some.first) c.requires c.in-Some.ensures.exact)
    (omega (arith, c.if-first-gt-HEAD_LIMIT.false)) c.in-Ok.is (rw c.in-Ok.is at c.in-Some.ensures.target))
    (subst (λ b. LacksBody c.args.limit b (drop c.in-Some.first.len c.args.bytes.now)) c.body_of_request.ensures
    (subst (λ (l : List ℕ). LacksBody c.args.limit c.body_of_request.result l) c.split_at.ensures.back c.if-has_body.ensures))

pub returns-in-Err-clause-exact : goal.returns-in-Err-clause-exact
returns-in-Err-clause-exact c =
    bad_first c.args.limit c.args.bytes.now c.in-Some.first c.in-Err.field-0 (subst (λ (n : ℕ). grammar.BeginsWithRequest n c.args.limit c.args.bytes.now c.in-Some.first) c.requires c.in-Some.ensures.exact)
    (omega (arith, c.if-first-gt-HEAD_LIMIT.false)) c.in-Err.is

pub returns-in-None-clause-exact : goal.returns-in-None-clause-exact
returns-in-None-clause-exact c =
    not_begun c.args.limit c.args.bytes.now (subst (λ (n : ℕ). grammar.BeginsWithNoRequest n c.args.bytes.now) c.requires c.in-None.ensures.exact)

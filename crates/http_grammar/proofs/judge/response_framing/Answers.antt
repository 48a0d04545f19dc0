-- Each test, once those before it passed.
use Rattle.std.proofs.Common.{sym, ◌∙◌, inl, inr, arith, subst}
use Rattle.std.specs.Str.Parse.{digits_value}
use Rattle.http_grammar.specs.Heads.{pairs_at}
use Rattle.http_grammar.specs.Judged.{HasForm}
use Rattle.http_grammar.proofs.Forms.{sound_of}
use Rattle.http_grammar.proofs.judge.response_framing.Goals.{then-status-eq204-via-then-status-eq204, then-status-eq204-via-else-status-eq204+then-status-eq304}
use Rattle.http_grammar.proofs.judge.response_framing.Goals as goal

pub returns-then-not-has_plain_body : goal.returns-then-not-has_plain_body
returns-then-not-has_plain_body c = (sound_of (pairs_at c.args.head.now c.args.spans.now) c.in-Some.form c.in-Some.ensures, sym c.has_plain_body.ensures ∙ c.if-not-has_plain_body.true)

pub returns-then-status-eq204 : goal.returns-then-status-eq204
returns-then-status-eq204 c = (
  elim c.then-status-eq204.branch [
    | then-status-eq204-via-then-status-eq204 w ↦ inl (omega arith)
    | then-status-eq204-via-else-status-eq204+then-status-eq304 w ↦ inr (omega arith)
  ],
  sound_of (pairs_at c.args.head.now c.args.spans.now) c.in-Some.form c.in-Some.ensures,
  sym c.has_plain_body.ensures ∙ c.if-not-has_plain_body.false,
)

pub returns-in-None : goal.returns-in-None
returns-in-None c =
    let form = subst (HasForm (pairs_at c.args.head.now c.args.spans.now)) c.in-Sized.is c.in-Some.ensures in (
      sym c.has_plain_body.ensures ∙ c.if-not-has_plain_body.false,
      (λ bodiless. elim bodiless [ inl a ↦ absurd (omega arith) | inr b ↦ absurd (omega arith) ]),
      digits_value 10 c.in-Sized.digits.now,
      form.0,
      c.in-None.ensures,
    )

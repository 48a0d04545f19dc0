-- Each test, once those before it passed.
use Rattle.std.proofs.Common.{sym, ◌∙◌, subst}
use Rattle.std.specs.Str.Parse.{digits_value}
use Rattle.http_grammar.specs.Heads.{pairs_at}
use Rattle.http_grammar.specs.Judged.{HasForm}
use Rattle.http_grammar.proofs.Forms.{sound_of}
use Rattle.http_grammar.proofs.judge.request_framing.Goals as goal

pub returns-then-not-has_plain_body : goal.returns-then-not-has_plain_body
returns-then-not-has_plain_body c = (
  c.has_host.ensures.0 c.if-has_host.true,
  sound_of (pairs_at c.args.head.now c.args.spans.now) c.in-Some.form c.in-Some.ensures,
  sym c.has_plain_body.ensures ∙ c.if-not-has_plain_body.true,
)

pub returns-in-None : goal.returns-in-None
returns-in-None c =
    let form = subst (HasForm (pairs_at c.args.head.now c.args.spans.now)) c.in-Sized.is c.in-Some.ensures in (
      c.has_host.ensures.0 c.if-has_host.true,
      sym c.has_plain_body.ensures ∙ c.if-not-has_plain_body.false,
      digits_value 10 c.in-Sized.digits.now,
      form.0,
      c.in-None.ensures,
    )

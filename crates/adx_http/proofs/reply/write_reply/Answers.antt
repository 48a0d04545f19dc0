-- A reply with status 204 and no field is these bytes.
use Rattle.std.proofs.Common.{sym, ◌∙◌, subst}
use Rattle.adx_http.specs.Written.{Writes}
use Rattle.adx_http.proofs.Bare.{bare_is}
use Rattle.adx_http.proofs.reply.write_reply.Goals as goal

pub returns-then-is_bare-clause-taken : goal.returns-then-is_bare-clause-taken
returns-then-is_bare-clause-taken g c =
    subst (λ bytes. Writes (g.K.Sink.held c.args.sink.now) (g.K.Sink.held c.write_bare.new.sink) bytes c.write_bare.result)
    (bare_is c.args.reply.now (sym c.is_bare.ensures ∙ c.if-is_bare.true)) c.write_bare.ensures.taken

-- A length frames the body whatever the limit.
use Rattle.std.proofs.Common.{sym, subst}
use Rattle.http_connection.specs.Steps.{BodyGives}
use Rattle.http_connection.proofs.bodies.read_body.Goals as goal

pub returns-in-Sized-clause-gives : goal.returns-in-Sized-clause-gives
returns-in-Sized-clause-gives g c =
    subst (λ b. BodyGives c.args.limit b c.args.buffer.now c.read_sized.new.buffer (g.S.Source.tape c.args.source.now) (g.S.Source.tape c.read_sized.new.source) c.read_sized.result) (sym c.in-Sized.is)
    (c.read_sized.ensures.gives c.args.limit)

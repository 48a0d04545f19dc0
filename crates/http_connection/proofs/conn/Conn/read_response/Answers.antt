-- What was refused is refused of all bytes that come.
use Rattle.std.proofs.Common.{refl, sym, ap, ◌∙◌}
use Rattle.http_connection.proofs.Given.{response_refused}
use Rattle.http_connection.proofs.conn.Conn.read_response.Goals as goal

pub returns-in-Err : goal.returns-in-Err
returns-in-Err g c = (
  (
    refl,
    λ x. tt,
    response_refused c.args.self.now c.self.inside.buffer c.release.new.self c.respond.new.buffer c.self.inside.limit (g.S.Source.tape c.args.source.now) (g.S.Source.tape c.respond.new.source) c.in-Err.fault
        (sym c.self.view_is ∙ ap (λ f. record { held = c.self.inside.buffer.pending; failed = f; limit = c.self.inside.limit }) c.if-self.false) c.release.ensures c.in-Err.ensures.advances c.in-Err.ensures.gives,
  ),
  record { after_borrow = tt; cause = c.in-Err.ensures.cause; same = c.in-Err.ensures.same },
)

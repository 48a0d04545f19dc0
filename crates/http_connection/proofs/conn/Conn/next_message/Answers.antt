-- What was refused is refused of all bytes that come.
use Rattle.std.proofs.Common.{refl, sym, ap, ◌∙◌}
use Rattle.http_connection.proofs.Given.{message_refused}
use Rattle.http_connection.proofs.conn.Conn.next_message.Goals as goal

pub returns-in-Err : goal.returns-in-Err
returns-in-Err g c = (
  (
    refl,
    λ x. tt,
    message_refused c.args.self.now c.self.inside.buffer c.release.new.self c.advance.new.buffer c.self.inside.limit (g.S.Source.tape c.args.source.now) (g.S.Source.tape c.advance.new.source) c.in-Err.fault
        (sym c.self.view_is ∙ ap (λ f. record { held = c.self.inside.buffer.pending; failed = f; limit = c.self.inside.limit }) c.if-self.false) c.release.ensures c.in-Err.ensures.advances c.in-Err.ensures.gives,
  ),
  record { after_borrow = tt; cause = c.in-Err.ensures.cause; same = c.in-Err.ensures.same },
)

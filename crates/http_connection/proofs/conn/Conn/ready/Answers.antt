-- What is held decides, where there was no fault.
use Rattle.std.proofs.Common.{sym, ap, ◌∙◌}
use Rattle.http_connection.specs.State.{ConnState}
use Rattle.http_connection.proofs.Readies.{found_ready}
use Rattle.http_connection.proofs.conn.Conn.ready.Goals as goal

pub returns : goal.returns
returns c =
    found_ready c.args.self.now c.self.inside.limit c.pending.result.now c.whole_in.result c.is_some.result (sym (ap ConnState.failed c.self.view_is) ∙ c.if-self.false) (sym (ap ConnState.limit c.self.view_is))
    (sym (ap ConnState.held c.self.view_is) ∙ sym c.pending.ensures) c.whole_in.ensures.exact c.is_some.ensures

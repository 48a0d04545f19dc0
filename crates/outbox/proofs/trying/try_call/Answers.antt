use Rattle.std.proofs.Common.{◌≡◌, sym, subst}
use Rattle.outbox.specs.Pumping.{IsTried, is_success}
use Rattle.outbox.proofs.Tried.{tried_by}
use Rattle.outbox.proofs.trying.try_call.Goals as goal

pub returns-clause-tried : goal.returns-clause-tried
returns-clause-tried g c =
    subst (λ o. IsTried {L = g.row.L.Denot} g.L.Link.exchanges g.L.Link.course g.L.Link.faults g.L.Link.place c.args.conn.now.limit c.args.call.now c.args.link.now c.exchange.new.link o) (sym c.outcome_of.ensures)
    (tried_by g.L.Link.exchanges g.L.Link.course g.L.Link.faults g.L.Link.place c.args.conn.now.limit (λ h status body heard. heard ≡ is_success status) _ c.args.call.now c.as_str.result.now c.as_bytes.result.now c.exchange.result c.args.link.now c.exchange.new.link
    c.as_str.ensures.value c.as_bytes.ensures.value (λ h status body heard e. e) c.exchange.ensures.talk c.exchange.ensures.answer c.exchange.ensures.front c.exchange.ensures.start_planned c.exchange.ensures.put_planned c.exchange.ensures.cause c.exchange.ensures.same)

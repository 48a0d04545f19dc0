use Rattle.std.proofs.Common.{◌∙◌, ap, arith, length, subst}
use Rattle.outbox.specs.Following.{OutboxState}
use Rattle.outbox.specs.declared.outbox.TheConstants.{ANSWER_LIMIT}
use Rattle.outbox.proofs.Parts.{pumped_all}
use Rattle.outbox.proofs.outbox.Outbox.pump.Goals as goal

pub returns : goal.returns
returns g c =
    pumped_all {L = g.row.L.Denot} g.L.Link.exchanges g.L.Link.course g.L.Link.faults g.L.Link.place ANSWER_LIMIT c.len-all.result c.args.link.now c.pump_part.new.link c.pump_part.result c.args.self.now c.pump_part.new.self
    (omega (arith, c.len-all.ensures, ap (λ (s : OutboxState). length s.pending) c.self.view_is)) c.pump_part.ensures

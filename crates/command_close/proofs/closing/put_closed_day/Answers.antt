-- The document of the closed day is printed.
use Rattle.std.proofs.Common.{◌++◌, refl}
use Rattle.bid_record.specs.Lines.{document as record_document}
use Rattle.dual_cert.specs.Lines.{document as cert_document}
use Rattle.command_close.specs.ClosedDays.{IsClosedDay}
use Rattle.history_runs.proofs.Putting.{printed_by}
use Rattle.command_close.proofs.Checked.{closed_checked}
use Rattle.command_close.proofs.closing.put_closed_day.Goals as goal

pub returns-in-Ok-clause-printed : goal.returns-in-Ok-clause-printed
returns-in-Ok-clause-printed g c =
    let closed = c.in-Ok.closed in
    printed_by IsClosedDay c.args.roster.now c.args.entries.now (g.K.Sink.held c.args.talk.now.sink.now) (g.K.Sink.held c.put_document-put.new.talk.sink.now)
    (record_document closed.record ++ cert_document closed.cert) c.put_document-put.result
    (record {
      day = closed.record;
      cert = closed.cert;
      served = c.in-Ok.ensures.served;
      closing = c.in-Ok.ensures.closing;
      spelled = refl;
      accepted = c.in-Ok.ensures.certificate;
      hindsight = c.in-Ok.ensures.hindsight;
      checked = λ short. closed_checked closed.record closed.cert _ c.in-Ok.ensures.closing refl;
    }) c.put_document-put.ensures.puts

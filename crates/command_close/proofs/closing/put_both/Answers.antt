-- The certificate after the record, or a prefix of both.
use Rattle.adx_io.specs.TalkState.{state_of}
use Rattle.bid_record.specs.Lines.{document as record_document}
use Rattle.dual_cert.specs.Lines.{document as cert_document}
use Rattle.command_close.proofs.Steps.{steps_on, stops_first}
use Rattle.command_close.proofs.closing.put_both.Goals as goal

pub returns-in-Ok-clause-puts : goal.returns-in-Ok-clause-puts
returns-in-Ok-clause-puts g c =
    let before = state_of c.args.talk.now in
    let mid = state_of c.put_record.new.talk in
    let now = state_of c.put_cert.new.talk in
    steps_on before.held mid.held now.held before.out mid.out now.out (record_document c.args.closed.now.record) (cert_document c.args.closed.now.cert) c.put_cert.result c.in-Ok.ensures.puts c.put_cert.ensures.puts

pub returns-in-Err-clause-puts : goal.returns-in-Err-clause-puts
returns-in-Err-clause-puts g c =
    let before = state_of c.args.talk.now in
    let mid = state_of c.put_record.new.talk in
    stops_first before.held mid.held before.out (record_document c.args.closed.now.record) (cert_document c.args.closed.now.cert) c.in-Err.stop c.in-Err.ensures.puts

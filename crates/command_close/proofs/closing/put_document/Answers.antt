-- The last piece was put, or a prefix of it.
use Rattle.std.proofs.Common.{ℕ, List, ◌++◌, refl, subst, Err}
use Rattle.adx_io.specs.TalkState.{state_of}
use Rattle.bid_record.specs.Lines.{document as record_document}
use Rattle.dual_cert.specs.Lines.{document as cert_document}
use Rattle.history_runs.specs.Putting.{PutsBytes, PutsFront}
use Rattle.history_runs.proofs.Putting.{puts_behind, puts_out}
use Rattle.command_close.proofs.closing.put_document.Goals as goal

pub returns-in-Ok-clause-puts : goal.returns-in-Ok-clause-puts
returns-in-Ok-clause-puts g c =
    let before = state_of c.args.talk.now in
    let mid = state_of c.put_both.new.talk in
    let now = state_of c.put_out.new.self in
    let bytes = record_document c.args.closed.now.record ++ cert_document c.args.closed.now.cert in
    puts_behind before.held mid.held now.held bytes mid.out c.put_out.result
    (subst (λ (o : List ℕ). PutsFront before.held mid.held (o ++ bytes) mid.out) c.requires.unwritten c.in-Ok.ensures.puts)
    (puts_out mid now mid.out c.put_out.result refl c.put_out.ensures.all c.put_out.ensures.fault c.put_out.ensures.front)

pub returns-in-Err-clause-puts : goal.returns-in-Err-clause-puts
returns-in-Err-clause-puts g c =
    let before = state_of c.args.talk.now in
    let mid = state_of c.put_both.new.talk in
    let bytes = record_document c.args.closed.now.record ++ cert_document c.args.closed.now.cert in
    subst (λ (o : List ℕ). PutsBytes before.held mid.held (o ++ bytes) (Err c.in-Err.stop)) c.requires.unwritten c.in-Err.ensures.puts

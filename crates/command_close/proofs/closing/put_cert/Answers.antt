-- The lines of the certificate were put, but for those that are still to be; or a prefix.
use Rattle.std.proofs.Common.{◌∙◌, ◌++◌, ℕ, List, ap, subst, sym, append_assoc, map, string_bytes}
use Rattle.std.specs.List.{enumerate_from, flat_map}
use Rattle.formats.specs.Parts.{ended}
use Rattle.adx_io.specs.TalkState.{state_of}
use Rattle.dual_cert.specs.Lines.{beta_line, bound_line, cert_front, cert_rest, document}
use Rattle.dual_cert.proofs.Pieces.{in_pieces}
use Rattle.history_runs.specs.Putting.{PutsPiece}
use Rattle.history_runs.proofs.Putting.{puts_none}
use Rattle.command_close.proofs.closing.put_cert.Goals as goal

pub returns-in-Ok-clause-puts : goal.returns-in-Ok-clause-puts
returns-in-Ok-clause-puts g c =
    let before = state_of c.args.talk.now in
    let now = state_of c.put_betas.new.talk in
    let x = c.args.cert.now in
    subst (λ (b : List ℕ). PutsPiece before.held now.held b now.out c.put_betas.result)
    (ap (λ (o : List ℕ). o ++ cert_rest x) c.in-Ok.ensures ∙ append_assoc before.out (cert_front x) (cert_rest x) ∙ ap (λ (b : List ℕ). before.out ++ b) (sym (in_pieces x)))
    (subst (λ (betas : List ℕ). PutsPiece before.held now.held (string_bytes c.push_cert_front.new.out ++ (flat_map ended (map beta_line (enumerate_from 0 betas)) ++ ended (bound_line x.bound))) now.out c.put_betas.result)
    c.as_slice.ensures c.put_betas.ensures.puts)

pub returns-in-Err-clause-puts : goal.returns-in-Err-clause-puts
returns-in-Err-clause-puts g c = let before = state_of c.args.talk.now in puts_none before.held (before.out ++ document (c.args.cert.now))

-- The lines of the record were put, but for those that are still to be; or a prefix.
use Rattle.std.proofs.Common.{◌∙◌, ◌++◌, ℕ, List, ap, subst, sym, append_assoc, length, map, string_bytes}
use Rattle.std.specs.List.{enumerate_from, flat_map}
use Rattle.formats.specs.Parts.{ended}
use Rattle.bid_record.specs.declared.rows.ImpRow.{ImpRow}
use Rattle.adx_io.specs.TalkState.{state_of}
use Rattle.bid_record.specs.Lines.{end_line, imp_line, record_front, record_rest}
use Rattle.bid_record.proofs.Pieces.{in_pieces}
use Rattle.history_runs.specs.Putting.{PutsPiece}
use Rattle.command_close.proofs.closing.put_record.Goals as goal

pub returns-in-Ok-clause-puts : goal.returns-in-Ok-clause-puts
returns-in-Ok-clause-puts g c =
    let before = state_of c.args.talk.now in
    let now = state_of c.put_imps.new.talk in
    let x = c.args.day.now in
    subst (λ (b : List ℕ). PutsPiece before.held now.held b now.out c.put_imps.result)
    (ap (λ (o : List ℕ). o ++ record_rest x) c.in-Ok.ensures ∙ append_assoc before.out (record_front x) (record_rest x) ∙ ap (λ (b : List ℕ). before.out ++ b) (sym (in_pieces x)))
    (subst (λ (imps : List ImpRow). PutsPiece before.held now.held (string_bytes c.push_record_front.new.out ++ (flat_map ended (map imp_line (enumerate_from 0 imps)) ++ ended (end_line (length imps)))) now.out c.put_imps.result)
    c.as_slice.ensures c.put_imps.ensures.puts)

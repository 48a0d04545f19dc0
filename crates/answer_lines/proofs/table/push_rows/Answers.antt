-- One more row.
use Rattle.std.proofs.Common.{◌++◌, take, string_bytes, sym, ap, ◌∙◌, append_assoc, arith}
use Rattle.std.specs.List.{flat_map, enumerate_from}
use Rattle.answer_lines.specs.Table.{campaign_line}
use Rattle.answer_lines.proofs.Joined.{numbered_over_more}
use Rattle.answer_lines.proofs.table.push_rows.Goals as goal

pub loop-place-preserved : goal.loop-place-preserved
loop-place-preserved c =
    let f = campaign_line c.args.book.now in
    let xs = c.args.campaigns.now in
    let i = c.loop-place.place in
    let x = c.index-campaigns-place.result in
    let before = flat_map f (enumerate_from 0 (take i xs)) in
    c.in_ok-push_campaign.ensures ∙ ap (λ b. b ++ f (i, x)) c.loop-place.invariant
    ∙ append_assoc (string_bytes c.args.out.now) before (f (i, x))
    ∙ ap (λ b. string_bytes c.args.out.now ++ b) (sym (numbered_over_more f xs i x (omega arith) c.index-campaigns-place.is))

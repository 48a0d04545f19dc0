use Rattle.std.proofs.Common.{ℕ, ◌+◌, ◌++◌, List, [], map, take, get_or, ap, ◌∙◌, None}
use Rattle.std.specs.List.{flat_map, enumerate_from}
use Rattle.std.specs.String.{string_bytes}
use Rattle.bid_record.specs.declared.rows.ImpRow.{ImpRow}
use Rattle.formats.specs.Parts.{ended}
use Rattle.bid_record.specs.Lines.{imp_line}
use Rattle.formats.proofs.NumberedLines.{numbered_more, numbered_all, joined, at_default}
use Rattle.bid_record.proofs.write.push_imps.Goals as goal

no_row : ImpRow
no_row = record { name = None; offers = []; chosen = None; end = None }

pub loop-j-preserved : goal.loop-j-preserved
loop-j-preserved c =
    let xs : List ImpRow = c.args.imps.now in
    let pieces : ℕ → List ℕ = λ n. flat_map ended (map imp_line (take n (enumerate_from 0 xs))) in
    joined (string_bytes c.args.out.now) (string_bytes c.loop-j.out) (string_bytes c.push_imp_line.new.out) (pieces c.loop-j.j) (ended (imp_line (c.loop-j.j, get_or xs c.loop-j.j no_row))) (pieces (c.loop-j.j + 1))
    (c.in_ok-push_imp_line.ensures ∙ ap (λ (row : ImpRow). string_bytes c.loop-j.out ++ ended (imp_line (c.loop-j.j, row))) (at_default xs c.loop-j.j c.index-imps-j.result no_row c.loop-j-test.true c.index-imps-j.is))
    c.loop-j.invariant
    (numbered_more ended imp_line xs c.loop-j.j no_row c.loop-j-test.true)

pub returns : goal.returns
returns c =
    let xs : List ImpRow = c.args.imps.now in
    c.loop-j.invariant ∙ ap (λ (t : List ℕ). string_bytes c.args.out.now ++ t) (numbered_all ended imp_line xs c.loop-j.j c.loop-j-test.false)

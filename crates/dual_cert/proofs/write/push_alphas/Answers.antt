use Rattle.std.proofs.Common.{ℕ, ◌+◌, ◌++◌, List, map, take, get_or, ap, ◌∙◌}
use Rattle.std.specs.List.{flat_map, enumerate_from}
use Rattle.std.specs.String.{string_bytes}
use Rattle.formats.specs.Parts.{ended}
use Rattle.dual_cert.specs.Lines.{alpha_line}
use Rattle.formats.proofs.NumberedLines.{numbered_more, numbered_all, joined}
use Rattle.dual_cert.proofs.write.push_alphas.Goals as goal

pub loop-i-preserved : goal.loop-i-preserved
loop-i-preserved c =
    let xs : List ℕ = c.args.alphas.now in
    let pieces : ℕ → List ℕ = λ n. flat_map ended (map alpha_line (take n (enumerate_from 0 xs))) in
    joined (string_bytes c.args.out.now) (string_bytes c.loop-i.out) (string_bytes c.push_alpha.new.out) (pieces c.loop-i.i) (ended (alpha_line (c.loop-i.i, get_or xs c.loop-i.i 0))) (pieces (c.loop-i.i + 1))
    c.in_ok-push_alpha.ensures
    c.loop-i.invariant
    (numbered_more ended alpha_line xs c.loop-i.i 0 c.loop-i-test.true)

pub returns : goal.returns
returns c =
    let xs : List ℕ = c.args.alphas.now in
    c.loop-i.invariant ∙ ap (λ (t : List ℕ). string_bytes c.args.out.now ++ t) (numbered_all ended alpha_line xs c.loop-i.i c.loop-i-test.false)

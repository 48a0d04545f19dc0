use Rattle.std.proofs.Common.{ℕ, ◌+◌, ◌++◌, List, map, take, get_or, ap, ◌∙◌}
use Rattle.std.specs.List.{flat_map, enumerate_from}
use Rattle.std.specs.String.{string_bytes}
use Rattle.formats.specs.Parts.{ended}
use Rattle.dual_cert.specs.Lines.{beta_line}
use Rattle.formats.proofs.NumberedLines.{numbered_more, numbered_all, joined}
use Rattle.dual_cert.proofs.write.push_betas.Goals as goal

pub loop-j-preserved : goal.loop-j-preserved
loop-j-preserved c =
    let xs : List ℕ = c.args.betas.now in
    let pieces : ℕ → List ℕ = λ n. flat_map ended (map beta_line (take n (enumerate_from 0 xs))) in
    joined (string_bytes c.args.out.now) (string_bytes c.loop-j.out) (string_bytes c.push_beta_line.new.out) (pieces c.loop-j.j) (ended (beta_line (c.loop-j.j, get_or xs c.loop-j.j 0))) (pieces (c.loop-j.j + 1))
    c.in_ok-push_beta_line.ensures
    c.loop-j.invariant
    (numbered_more ended beta_line xs c.loop-j.j 0 c.loop-j-test.true)

pub returns : goal.returns
returns c =
    let xs : List ℕ = c.args.betas.now in
    c.loop-j.invariant ∙ ap (λ (t : List ℕ). string_bytes c.args.out.now ++ t) (numbered_all ended beta_line xs c.loop-j.j c.loop-j-test.false)

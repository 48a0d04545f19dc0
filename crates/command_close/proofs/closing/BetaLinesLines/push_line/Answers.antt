use Rattle.std.proofs.Common.{◌≡◌, ◌++◌, ◌<◌, ℕ, List, length, sym, subst, arith, OnOk}
use Rattle.std.specs.String.{string_bytes}
use Rattle.formats.specs.Parts.{ended}
use Rattle.dual_cert.specs.Lines.{beta_line}
use Rattle.command_close.proofs.Steps.{numbered_at, numbered_length}
use Rattle.command_close.proofs.closing.BetaLinesLines.push_line.Goals as goal

pub returns : goal.returns
returns c =
    let betas = c.args.self.now.betas.now in
    let within : c.args.at < length betas = omega (arith, c.requires, numbered_length beta_line betas) in
    subst (λ (l : List ℕ). OnOk c.push_beta_line.result (string_bytes c.push_beta_line.new.out ≡ string_bytes c.args.out.now ++ ended l))
    (sym (numbered_at beta_line betas c.args.at 0 within))
    c.push_beta_line.ensures

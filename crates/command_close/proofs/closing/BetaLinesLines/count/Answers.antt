use Rattle.std.proofs.Common.{sym}
use Rattle.dual_cert.specs.Lines.{beta_line}
use Rattle.command_close.proofs.Steps.{numbered_length}
use Rattle.command_close.proofs.closing.BetaLinesLines.count.Goals as goal

pub returns : goal.returns
returns c = sym (numbered_length beta_line c.args.self.now.betas.now)

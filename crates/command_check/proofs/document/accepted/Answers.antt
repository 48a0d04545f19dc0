-- A verdict that isn't an acceptance was written.
use Rattle.std.proofs.Common.{List, ℕ, ◌++◌, ◌∙◌, ap, string_bytes}
use Rattle.command_check.specs.Answers.{verdict_line}
use Rattle.command_check.proofs.Judged.{rejected}
use Rattle.command_check.proofs.document.accepted.Goals as goal

pub returns-in_ok-push_verdict-in_default : goal.returns-in_ok-push_verdict-in_default
returns-in_ok-push_verdict-in_default c = λ bytes is.
    rejected bytes (string_bytes c.push_verdict.new.out) c.args.parts.rec c.args.parts.cert c.check-verdict.result c.in_default.not-Accepted c.check-verdict.ensures.rules c.check-verdict.ensures.bound
    (c.in_ok-push_verdict-in_default.ensures ∙ ap (λ (b : List ℕ). b ++ verdict_line c.check-verdict.result) c.requires) is

use Rattle.std.proofs.Common.{◌+◌, ap, ◌∙◌}
use Rattle.std.specs.Prelude.{min, ◌-◌, ◌^◌}
use Rattle.outbox.specs.declared.report.Report.{Report}
use Rattle.outbox.proofs.Tried.{given_up_more}
use Rattle.outbox.proofs.report.given_up_with.Goals as goal

pub returns : goal.returns
returns c =
    c.saturating_add.ensures
    ∙ (ap (λ (r : Report). min (c.args.before + r.undeliverable) (2 ^ 32 - 1)) c.report_of.ensures
    ∙ given_up_more c.args.before c.args.outcomes.now c.ranges.before.fits)

use Rattle.std.proofs.Common.{◌≡◌, take}
use Rattle.outbox.specs.Pumping.{report_of}
use Rattle.outbox.proofs.report.report_of.Given as goal

abbrev pub invariant-loop-outcome : goal.invariant-loop-outcome
invariant-loop-outcome l = l.report ≡ report_of (take l.outcome-index l.outcomes)

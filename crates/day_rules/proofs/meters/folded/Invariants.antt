use Rattle.std.proofs.Common.{◌≡◌, take, fold}
use Rattle.day_rules.specs.Steps.{after}
use Rattle.day_rules.proofs.meters.folded.Given as goal

abbrev pub invariant-loop-step : goal.invariant-loop-step
invariant-loop-step l = l.meters ≡ fold after l.fn.from (take l.step-index l.steps)

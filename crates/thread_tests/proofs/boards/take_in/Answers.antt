use Rattle.std.proofs.Common.{rules, ◌≡◌, ◌+◌, take, fold, sym, subst, arith, below_more}
use Rattle.std.proofs.lemmas.Grind.{common_steps}
use Rattle.day_rules.specs.Steps.{after, meters_of, InRange}
use Rattle.meter_board.specs.Words.{taken}
use Rattle.thread_tests.proofs.SmallSteps.{small_after}
use Rattle.thread_tests.proofs.boards.take_in.Goals as goal

pub loop-step-preserved : goal.loop-step-preserved
loop-step-preserved g c =
    let start = meters_of (taken c.args.board.now) in
    let i = c.loop-step.step-index in
    let same : c.after-meters.result ≡ fold after start (take (i + 1) c.args.steps.now) = grind (arith, common_steps) in
    let fits : InRange c.after-meters.result = subst InRange (sym c.after-meters.ensures.meters) (small_after _ _ (c.is_small.ensures.small (search rules)) (omega arith) (omega arith)) in
    let here : InRange (fold after start (take (i + 1) c.args.steps.now)) = subst InRange same fits in
    (same, below_more _ _ c.loop-step.invariant.1 here)

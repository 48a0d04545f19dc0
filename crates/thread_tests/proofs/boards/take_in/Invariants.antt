use Rattle.std.proofs.Common.{◌≡◌, ℕ, ◌+◌, ◌<◌, take, fold}
use Rattle.day_rules.specs.Steps.{after, meters_of, InRange}
use Rattle.meter_board.specs.Words.{taken}
use Rattle.thread_tests.proofs.boards.take_in.Given as goal

abbrev pub invariant-loop-step : goal.invariant-loop-step
invariant-loop-step g l =
    (l.meters ≡ fold after (meters_of (taken l.fn.board)) (take l.step-index l.steps))
    × ((k : ℕ) → k < l.step-index → InRange (fold after (meters_of (taken l.fn.board)) (take (k + 1) l.steps)))

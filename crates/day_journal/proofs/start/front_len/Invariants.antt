use Rattle.std.proofs.Common.{◌≡◌, ℕ, take}
use Rattle.day_journal.specs.Places.{head}
use Rattle.day_journal.proofs.start.front_len.Given as goal

abbrev pub invariant-loop-at : goal.invariant-loop-at
invariant-loop-at l = (format : ℕ) → take l.at l.first ≡ take l.at (head format)

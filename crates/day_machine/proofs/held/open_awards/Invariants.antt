-- The first awards were counted.
use Rattle.std.proofs.Common.{◌≡◌, ◌≤◌, take}
use Rattle.day_machine.specs.Held.{open_count}
use Rattle.day_machine.proofs.held.open_awards.Given as goal

abbrev pub invariant-loop-n : goal.invariant-loop-n
invariant-loop-n l = record { counted : l.open ≡ open_count (take l.n l.awards.awards); few : l.open ≤ l.n }

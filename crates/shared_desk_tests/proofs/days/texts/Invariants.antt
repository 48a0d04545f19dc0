use Rattle.std.proofs.Common.{◌≡◌, ◌<◌, ℕ, length, get_or}
use Rattle.std.specs.List.{All}
use Rattle.day_rules.specs.declared.ask.Kept.{Kept}
use Rattle.day_rules.specs.KeptTexts.{IsShort}
use Rattle.shared_desk_tests.proofs.days.texts.Given as goal

abbrev pub invariant-loop-place : goal.invariant-loop-place
invariant-loop-place l =
    (length l.kept.items ≡ l.place) × ((k : ℕ) (d : Kept) → k < l.place → (get_or l.kept.items k d).bid ≡ k) × All IsShort l.kept.items

use Rattle.std.proofs.Common.{◌≡◌, ◌++◌, length, string_bytes}
use Rattle.std.specs.List.{flat_map}
use denote.Shadow.{shadow}
use denote.Text.{Utf8}
use Rattle.adx_units.specs.JsonTexts.{escape}
use Rattle.adx_units.proofs.escape.push_escaped.Given as goal

-- what was put and what is left make up the whole
abbrev pub invariant-runs : goal.invariant-runs
invariant-runs l =
    (string_bytes l.out ++ flat_map escape l.left ≡ string_bytes l.initial.out ++ flat_map escape l.text) × shadow (Utf8 l.left)

abbrev pub decreases-runs : goal.decreases-runs
decreases-runs l = length l.left

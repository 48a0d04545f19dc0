-- The length of a name. This project's own.
use Rattle.std.specs.Prelude.{ℕ, ◌≤◌, List, length}
use Rattle.adx_units.specs.declared.id.TheConstants.{LONGEST_ID}

-- 1 to 128 bytes
abbrev pub IsSized : List ℕ → Type 0
IsSized name = (1 ≤ length name) × (length name ≤ LONGEST_ID)

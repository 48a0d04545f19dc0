-- The whole of what a campaign earns, of which an alpha is parts. This project's own.
use Rattle.std.specs.Prelude.{ℕ}

abbrev pub whole : ℕ
whole = 1000000000

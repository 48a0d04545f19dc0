-- The form of a day. This project's own.
use Rattle.std.specs.Prelude.{ℕ, List, map, codes, Bool, if◌then◌else◌}
use Rattle.std.specs.Str.{bytes_eq}
use Rattle.adx_units.specs.Number.{is_digit}

-- a byte, where each digit counts as 0
abbrev pub zeroed : ℕ → ℕ
zeroed b = if is_digit b then 48 else b

-- a day: four digits, two and two, with dashes between them
-- Example: 2025-02-30 has the form, 2025-2-3 hasn't.
abbrev pub is_day : List ℕ → Bool
is_day day = bytes_eq (map zeroed day) (codes "0000-00-00")

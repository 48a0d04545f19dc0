-- What private functions of the keeper in memory say. Only private clauses cite this file.
use Rattle.std.specs.Prelude.{ℕ, List, Option, Some, None, if◌then◌else◌}
use Rattle.day_archive.specs.Dates.{is_upto}

-- the later of two days, where the first is there
abbrev pub later_of : Option (List ℕ) → List ℕ → List ℕ
later_of None day = day
later_of (Some latest) day = if is_upto latest day then day else latest

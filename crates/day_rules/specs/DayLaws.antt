-- What the meters of a day keep. This project's own.
use Rattle.std.specs.Prelude.{◌≡◌, ℕ, List, length}
use Rattle.std.specs.List.{sum_by, range_with_len}
use Rattle.day_rules.specs.declared.entry.Entry.{Entry}
use Rattle.day_rules.specs.Books.{billed, reserved}
use Rattle.day_rules.specs.Terms.{Terms}
use Rattle.day_rules.specs.Steps.{InRange, meters_of}
use Rattle.day_rules.specs.DayMeters.{meters_after, steps_of}

-- the sum of a number over all campaigns of a day
abbrev pub over_campaigns : Terms → (ℕ → ℕ) → ℕ
over_campaigns terms money = sum_by money (range_with_len 0 (length terms.budgets))

-- of a day's history the fold of its steps is its meters, the money in them is that of all campaigns, and each number is in its range
pub record AreDayMeters (terms : Terms) (history : List Entry) : Type 0 where
  pub folded : meters_of (steps_of history) ≡ meters_after history
  pub reserved : (meters_after history).reserved ≡ over_campaigns terms (reserved history)
  pub billed : (meters_after history).billed ≡ over_campaigns terms (billed history)
  pub in_range : InRange (meters_after history)

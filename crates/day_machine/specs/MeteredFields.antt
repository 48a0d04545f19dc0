-- Private, cited by the invariant of a metered day and by its helpers alone.
use Rattle.std.specs.Prelude.{◌≡◌, ℕ, ◌≤◌, List}
use Rattle.day_rules.specs.Books.{awards_of, entries_to_come}
use Rattle.day_rules.proofs.Counting.{entries_needed}
use Rattle.day_rules.specs.declared.entry.Entry.{Entry}
use Rattle.day_rules.specs.DayState.{DayState, IsDay}
use Rattle.day_rules.specs.DayMeters.{meters_after, steps_of}
use Rattle.day_rules.specs.declared.meters.Meters.{Meters}
use Rattle.day_rules.specs.declared.step.MeterStep.{MeterStep}

-- the meters and the steps are those of the day's history, and there is memory for the steps of entries to come
pub record AreMetered (day : DayState) (meters : Meters) (steps : List MeterStep) (spare : ℕ) : Type 0 where
  pub is_day : IsDay day.terms day.history
  pub meters_are : meters ≡ meters_after day.history
  pub steps_are : steps ≡ steps_of day.history
  pub to_come : entries_to_come (awards_of day.history) ≤ spare

-- for how many steps there has to be memory before an entry is added: one, and those of the entries to come
abbrev pub steps_needed : List Entry → Entry → ℕ
steps_needed history e = entries_needed history e

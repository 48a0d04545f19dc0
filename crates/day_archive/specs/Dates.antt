-- Which texts are dates, and which of two is the later. The calendar is the Gregorian one of ISO 8601, for all years from 0.
use Rattle.std.specs.Prelude.{ℕ, ◌+◌, ◌-◌, ◌*◌, List, slice_index, pos, Bool, IsTrue}
use Rattle.std.specs.Cmp.Lexicographic.{slice_cmp}
use Rattle.std.specs.Ordering.{nat_cmp, is_le}
use Rattle.formats.specs.Days.{is_day}
use Rattle.jiff.specs.Words.{IsDate as IsCalendarDate}

-- the number of the two digits at a place
abbrev pub two_digits : ℕ → List ℕ → ℕ
two_digits at day = 10 * (slice_index day at - 48) + (slice_index day (at + 1) - 48)

-- the year, the month and the day of the month that a day spells
abbrev pub year_of : List ℕ → ℕ
year_of day = 100 * two_digits 0 day + two_digits 2 day

-- its month
abbrev pub month_of : List ℕ → ℕ
month_of day = two_digits 5 day

-- its day of the month
abbrev pub monthday_of : List ℕ → ℕ
monthday_of day = two_digits 8 day

-- a text is a date: it is a day, and the calendar has it
pub record IsDate (day : List ℕ) : Type 0 where
  pub form : IsTrue (is_day day)
  pub calendar : IsCalendarDate (pos (year_of day)) (pos (month_of day)) (pos (monthday_of day))

-- a date isn't later than another: the order of their bytes
abbrev pub is_upto : List ℕ → List ℕ → Bool
is_upto day other = is_le (slice_cmp nat_cmp day other)

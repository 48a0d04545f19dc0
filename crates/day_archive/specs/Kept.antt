-- The rows that an archive keeps, and what is asked of them. This project's own.
use Rattle.std.specs.Prelude.{◌≡◌, ℕ, List, [], ◌∷◌, Bool, ◌&&◌, if◌then◌else◌, IsTrue, All, AllPairs, None}
use Rattle.std.specs.List.{filter, list_any}
use Rattle.std.specs.List.Sorted.{IsPermutation, IsSortedByKey}
use Rattle.std.specs.Str.{bytes_eq}
use Rattle.std.specs.Cmp.Lexicographic.{slice_cmp}
use Rattle.std.specs.Ordering.{nat_cmp}
use Rattle.day_archive.specs.declared.row.DayRow.{DayRow}
use Rattle.day_archive.specs.Dates.{is_upto}

-- the rows from before, and those that are read and added to
pub record Archive : Type 0 where
  pub old : List DayRow
  pub rows : List DayRow

-- a row is of this day
abbrev pub is_of_day : List ℕ → DayRow → Bool
is_of_day day row = bytes_eq row.day day

-- a row of this day is there
abbrev pub has_day : List ℕ → List DayRow → Bool
has_day day rows = list_any (is_of_day day) rows

-- the days of rows, each once
abbrev pub days : List DayRow → List (List ℕ)
days [] = []
days (row ∷ rows) = if has_day row.day rows then days rows else row.day ∷ days rows

-- the day of rows of one day
abbrev pub day_of : List DayRow → List ℕ
day_of [] = []
day_of (row ∷ rows) = row.day

-- rows are of different campaigns
abbrev pub Differ : DayRow → DayRow → Type 0
Differ a b = (a.seat ≡ b.seat) × (a.cid ≡ b.cid) → ⊥

-- some rows of one day, one for each campaign
pub record AreOfOneDay (rows : List DayRow) : Type 0 where
  pub some_row : rows ≡ [] → ⊥
  pub one_day : All (λ row. row.day ≡ day_of rows) rows
  pub distinct : AllPairs Differ rows

-- the number of impressions isn't known
abbrev pub IsFromBefore : DayRow → Type 0
IsFromBefore row = row.imps ≡ None

-- a row of this campaign and of a day from the first to the last, both included
abbrev pub is_asked : List ℕ → List ℕ → List ℕ → List ℕ → DayRow → Bool
is_asked seat cid first last row =
    bytes_eq row.seat seat && (bytes_eq row.cid cid && (is_upto first row.day && is_upto row.day last))

-- rows in order of day
abbrev pub AreInOrder : List DayRow → Type 0
AreInOrder rows = IsSortedByKey (λ (row : DayRow). row.day) (slice_cmp nat_cmp) rows

-- what is listed of the kept rows: all that are asked for, each once, in order of day
pub record IsListed (seat cid first last : List ℕ) (kept listed : List DayRow) : Type 0 where
  pub asked : IsPermutation (filter (is_asked seat cid first last) kept) listed
  pub order : AreInOrder listed

-- the greatest day of rows
pub record IsLatest (rows : List DayRow) (day : List ℕ) : Type 0 where
  pub there : IsTrue (has_day day rows)
  pub greatest : All (λ row. IsTrue (is_upto row.day day)) rows

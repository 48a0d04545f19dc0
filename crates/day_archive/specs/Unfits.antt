-- What the tests of days answer. This project's own.
use Rattle.std.specs.Prelude.{◌≡◌, ◌⊎◌, ℕ, List, Result, Ok, Err, false, IsTrue}
use Rattle.day_archive.specs.declared.dates.Unfit.{Unfit}
use Rattle.day_archive.specs.Dates.{IsDate, is_upto}

-- a date is fit, and another text is named, unless memory is refused for naming it
abbrev pub IsFitDay : List ℕ → Result Unit Unfit → Type 0
IsFitDay day (Ok done) = IsDate day
IsFitDay day (Err (Unfit.Date named)) = (named ≡ day) × (IsDate day → ⊥)
IsFitDay day (Err Unfit.Range) = ⊥
IsFitDay day (Err Unfit.OutOfMemory) = IsDate day → ⊥

-- the same of a first and a last day
abbrev pub IsFitRange : List ℕ → List ℕ → Result Unit Unfit → Type 0
IsFitRange first last (Ok done) = IsDate first × IsDate last × IsTrue (is_upto first last)
IsFitRange first last (Err (Unfit.Date named)) =
    ((named ≡ first) × (IsDate first → ⊥)) ⊎ ((named ≡ last) × IsDate first × (IsDate last → ⊥))
IsFitRange first last (Err Unfit.Range) = IsDate first × IsDate last × (is_upto first last ≡ false)
IsFitRange first last (Err Unfit.OutOfMemory) = IsDate first → IsDate last → ⊥

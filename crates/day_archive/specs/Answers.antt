-- What a keeper answers, and what each of its calls makes of the rows. This project's own.
use Rattle.std.specs.Prelude.{◌≡◌, ◌⊎◌, ℕ, ◌≤◌, List, [], ◌++◌, length, Option, Some, None, Result, Ok, Err, false, IsTrue, ⊤}
use Rattle.adx_io.specs.Streams.{Rises}
use Rattle.day_archive.specs.declared.row.DayRow.{DayRow}
use Rattle.day_archive.specs.declared.refusal.KeeperRefusal.{KeeperRefusal}
use Rattle.day_archive.specs.Dates.{IsDate, is_upto}
use Rattle.day_archive.specs.Kept.{Archive, has_day, days, day_of, IsListed, IsLatest}

-- the count of faults after a refusal: a fault is answered only where it rose, and any other refusal leaves it
abbrev pub IsCaused : ℕ → ℕ → KeeperRefusal → Type 0
IsCaused before now KeeperRefusal.KeeperFault = (before ≤ now) × Rises before now
IsCaused before now refusal = now ≡ before

-- the same after any answer: what isn't refused leaves the count
abbrev pub HasKeeperCause : {T : Type 0} → ℕ → ℕ → Result T KeeperRefusal → Type 0
HasKeeperCause before now (Ok x) = now ≡ before
HasKeeperCause before now (Err refusal) = IsCaused before now refusal

-- what a put says of its day, whether the rows are reported or not
abbrev pub TellsPut : List DayRow → Result Unit KeeperRefusal → Type 0
TellsPut rows (Ok done) = IsDate (day_of rows)
TellsPut rows (Err (KeeperRefusal.DayThere day)) = (day ≡ day_of rows) × IsDate (day_of rows)
TellsPut rows (Err (KeeperRefusal.BadDate day)) = (day ≡ day_of rows) × (IsDate (day_of rows) → ⊥)
TellsPut rows (Err KeeperRefusal.BadRange) = ⊥
TellsPut rows (Err KeeperRefusal.KeeperFault) = ⊤

-- a put appends rows of a day that isn't there; a refused one changes no row
abbrev pub Puts : List DayRow → Result Unit KeeperRefusal → Archive → Archive → Type 0
Puts rows (Ok done) old new =
    (has_day (day_of rows) old.rows ≡ false) × (new ≡ record { old = old.old; rows = old.rows ++ rows })
Puts rows (Err (KeeperRefusal.DayThere day)) old new = IsTrue (has_day (day_of rows) old.rows) × (new ≡ old)
Puts rows (Err refusal) old new = new ≡ old

-- what a listing says of its first and last day, whether the rows are reported or not: the first that isn't a date is
-- named, and then whether the first comes after the last
abbrev pub TellsDays : {T : Type 0} → List ℕ → List ℕ → Result T KeeperRefusal → Type 0
TellsDays first last (Ok rows) = IsDate first × IsDate last × IsTrue (is_upto first last)
TellsDays first last (Err (KeeperRefusal.DayThere day)) = ⊥
TellsDays first last (Err (KeeperRefusal.BadDate day)) =
    ((day ≡ first) × (IsDate first → ⊥)) ⊎ ((day ≡ last) × IsDate first × (IsDate last → ⊥))
TellsDays first last (Err KeeperRefusal.BadRange) = IsDate first × IsDate last × (is_upto first last ≡ false)
TellsDays first last (Err KeeperRefusal.KeeperFault) = ⊤

-- a listing gives the kept rows of the campaign from the first day to the last, as view sees them, and changes no row
abbrev pub Lists : {T : Type 0} → (T → List DayRow) → List ℕ → List ℕ → List ℕ → List ℕ → Result T KeeperRefusal → Archive → Archive → Type 0
Lists view seat cid first last (Ok rows) old new = IsListed seat cid first last old.rows (view rows) × (new ≡ old)
Lists view seat cid first last (Err refusal) old new = new ≡ old

-- the only refusal is a fault
abbrev pub FaultsAlone : {T : Type 0} → Result T KeeperRefusal → Type 0
FaultsAlone (Ok x) = ⊤
FaultsAlone (Err refusal) = refusal ≡ KeeperRefusal.KeeperFault

-- the greatest kept day, or none where nothing is kept; no row changes
abbrev pub FindsLast : Result (Option (List ℕ)) KeeperRefusal → Archive → Archive → Type 0
FindsLast (Ok None) old new = (old.rows ≡ []) × (new ≡ old)
FindsLast (Ok (Some day)) old new = IsLatest old.rows day × (new ≡ old)
FindsLast (Err refusal) old new = new ≡ old

-- the rows from before come after the others, and the number of their days is answered; a refused upgrade changes no row
abbrev pub Upgrades : Result ℕ KeeperRefusal → Archive → Archive → Type 0
Upgrades (Ok n) old new = (n ≡ length (days old.old)) × (new ≡ record { old = []; rows = old.rows ++ old.old })
Upgrades (Err refusal) old new = new ≡ old

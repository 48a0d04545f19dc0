-- How far the file of an archive is opened, and what is counted and done by then. Only private clauses cite this file.
use Rattle.std.specs.Prelude.{ℕ, Bool, false, ⊤}
use Rattle.sql_archive.specs.declared.file_keeper.Place.{Place}

-- the count of faults: the open file's, and before it is open that of the calls so far
abbrev pub faults_of : ℕ → Place → ℕ
faults_of faults Place.Waiting = faults
faults_of faults (Place.Open keeper) = keeper.conn.faults
faults_of faults (Place.Refused unopened) = faults

-- an upgrade of the open file has answered Ok
abbrev pub upgraded_of : Place → Bool
upgraded_of Place.Waiting = false
upgraded_of (Place.Open keeper) = keeper.upgraded
upgraded_of (Place.Refused unopened) = false

-- it isn't open
abbrev pub IsUnopened : Place → Type 0
IsUnopened Place.Waiting = ⊤
IsUnopened (Place.Open keeper) = ⊥
IsUnopened (Place.Refused unopened) = ⊤

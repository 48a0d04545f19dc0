-- What a command on the archive does: the rows from before are moved behind the others, and one call is made. This
-- project's own.
use Rattle.std.specs.Prelude.{◌≡◌, ◌⊎◌, ℕ, List, [], ◌++◌, Option, Result, Ok, Err}
use Rattle.adx_io.specs.Streams.{WhereTold}
use Rattle.day_archive.specs.declared.row.DayRow.{DayRow}
use Rattle.day_archive.specs.declared.refusal.KeeperRefusal.{KeeperRefusal}
use Rattle.day_archive.specs.Kept.{Archive, day_of}
use Rattle.day_archive.specs.Answers.{IsCaused, TellsPut, Puts, TellsDays, Lists}
use Rattle.formats.specs.Parts.{ended}
use Rattle.command_archive.specs.declared.filing.Filing.{Filing}
use Rattle.command_archive.specs.Lines.{row_lines, kept_line, refusal_text}

-- the archive with no row from before
abbrev pub upgraded : Archive → Archive
upgraded archive = record { old = []; rows = archive.rows ++ archive.old }

-- nothing but an upgrade was done, or not even that
abbrev pub IsAtMostUpgraded : Archive → Archive → Type 0
IsAtMostUpgraded old new = (new ≡ old) ⊎ (new ≡ upgraded old)

-- how a command ends by what the keeper answered
abbrev pub ending : {T : Type 0} → Result T KeeperRefusal → Filing
ending (Ok x) = Filing.Done
ending (Err KeeperRefusal.KeeperFault) = Filing.Fault
ending (Err refusal) = Filing.Refused

-- the keeper's count of faults: it rose where the command ends by a fault, and else it stands
abbrev pub Counts : ℕ → ℕ → Filing → Type 0
Counts before now Filing.Fault = IsCaused before now KeeperRefusal.KeeperFault
Counts before now other = now ≡ before

-- what is written by what a put was answered
abbrev pub put_text : List DayRow → Result Unit KeeperRefusal → List ℕ
put_text rows (Ok done) = ended (kept_line (day_of rows))
put_text rows (Err refusal) = refusal_text refusal

-- a put to the upgraded archive, or a fault before it
abbrev pub PutsUpgraded : List DayRow → Result Unit KeeperRefusal → Archive → Archive → Type 0
PutsUpgraded rows (Err KeeperRefusal.KeeperFault) old new = IsAtMostUpgraded old new
PutsUpgraded rows answer old new = Puts rows answer (upgraded old) new

-- a day's rows were filed: what the keeper answered tells what was written, how the command ends, and what is kept
pub record Files (rows : List DayRow) (old new : Option Archive) (written : List ℕ) (end : Filing) : Type 0 where
  pub answer : Result Unit KeeperRefusal
  pub day : TellsPut rows answer
  pub kept : WhereTold old new (PutsUpgraded rows answer)
  pub text : written ≡ put_text rows answer
  pub ends : end ≡ ending answer

-- what a listing answers, with its rows as view sees them
abbrev pub rows_in : {T : Type 0} → (T → List DayRow) → Result T KeeperRefusal → Result (List DayRow) KeeperRefusal
rows_in view (Ok rows) = Ok (view rows)
rows_in view (Err refusal) = Err refusal

-- what is written by what a listing was answered
abbrev pub list_text : Result (List DayRow) KeeperRefusal → List ℕ
list_text (Ok rows) = row_lines rows
list_text (Err refusal) = refusal_text refusal

-- a listing of the upgraded archive, or a fault before it
abbrev pub ListsUpgraded : List ℕ → List ℕ → List ℕ → List ℕ → Result (List DayRow) KeeperRefusal → Archive → Archive → Type 0
ListsUpgraded seat cid first last (Err KeeperRefusal.KeeperFault) old new = IsAtMostUpgraded old new
ListsUpgraded seat cid first last answer old new = Lists (λ rows. rows) seat cid first last answer (upgraded old) new

-- a campaign's days were listed: what the keeper answered tells what was written, how the command ends, and what is kept
pub record ListsDays (seat cid first last : List ℕ) (old new : Option Archive) (written : List ℕ) (end : Filing) : Type 0 where
  pub answer : Result (List DayRow) KeeperRefusal
  pub days : TellsDays first last answer
  pub kept : WhereTold old new (ListsUpgraded seat cid first last answer)
  pub text : written ≡ list_text answer
  pub ends : end ≡ ending answer

-- Documents of lines: each line has a row, and a row adds to what the rows before it said. This project's own.
use Rattle.std.specs.Prelude.{◌≡◌, ℕ, ◌+◌, ◌≤◌, List, ◌∷◌, ◌++◌, length, Option, Some}
use Rattle.std.specs.List.{flat_map}
use Rattle.formats.specs.Parts.{◌>>=◌, ended}
use Rattle.formats.specs.Following.{Leads, FailsAt, IsCut}
use Rattle.formats.specs.Formats.{Format, whole_reads}

-- a document: the format of its lines, and which line may follow which
pub record Document (Row Told : Type 0) : Type 1 where
  -- a line
  pub row : Format Row
  -- what is said before the first line
  pub start : Told
  -- what a row adds to what was said; None where it may not come there
  pub step : Told → Row → Option Told
  -- the last line was there
  pub IsWhole : Told → Type 0

-- a row's line with its newline, and a whole document
abbrev pub line_of : {Row Told : Type 0} → Document Row Told → Row → List ℕ
line_of d row = ended (d.row.write row)

-- the lines of all rows, one after the other
abbrev pub document_of : {Row Told : Type 0} → Document Row Told → List Row → List ℕ
document_of d rows = flat_map (line_of d) rows

-- a line that has a row, which may come there
pub record Follows {Row Told : Type 0} (d : Document Row Told) (told : Told) (line : List ℕ) (next : Told) : Type 0 where
  pub row : Row
  pub fits : d.row.Fits row
  pub spelled : line ≡ d.row.write row
  pub comes : d.step told row ≡ Some next

-- no row has this line, or the row that has it may not come here
abbrev pub DoesNotFollow : {Row Told : Type 0} → Document Row Told → Told → List ℕ → Type 0
DoesNotFollow d told line = (next : _) → Follows d told line next → ⊥

-- the line with this number, from 1, is the first that doesn't follow
abbrev pub HasFault : {Row Told : Type 0} → Document Row Told → List ℕ → ℕ → Type 0
HasFault d bytes n = FailsAt (Follows d) d.start d.IsWhole (DoesNotFollow d) bytes n

-- all lines follow, and the last isn't there
abbrev pub HasEnd : {Row Told : Type 0} → Document Row Told → List ℕ → Type 0
HasEnd d bytes = IsCut (Follows d) d.start d.IsWhole bytes

-- a byte comes after the last line, whose number is one less
pub record HasMore {Row Told : Type 0} (d : Document Row Told) (bytes : List ℕ) (n : ℕ) : Type 0 where
  pub lines : List (List ℕ)
  pub told : Told
  pub byte : ℕ
  pub rest : List ℕ
  pub document : bytes ≡ flat_map ended lines ++ byte ∷ rest
  pub number : n ≡ length lines + 1
  pub before : Leads (Follows d) d.start lines told
  pub whole : d.IsWhole told

-- ---- private: how a reader goes over the lines

-- what a line adds
abbrev pub next_at : {Row Told : Type 0} → Document Row Told → Told → List ℕ → Option Told
next_at d told line = whole_reads d.row line >>= d.step told

-- the lines so far, what is left, and the number of the next line
pub record HasRead {Row Told : Type 0} (d : Document Row Told) (bytes : List ℕ) (told : Told) (left : List ℕ) (n : ℕ) : Type 0 where
  pub lines : List (List ℕ)
  pub document : bytes ≡ flat_map ended lines ++ left
  pub number : n ≡ length lines + 1
  pub few : n + length left ≤ length bytes + 1
  pub before : Leads (Follows d) d.start lines told

-- Documents of lines: which line is the first that doesn't follow those before it. This project's own.
use Rattle.std.specs.Prelude.{◌≡◌, ℕ, ◌+◌, List, [], ◌∷◌, ◌++◌, length}
use Rattle.std.specs.List.{flat_map}
use Rattle.formats.specs.Parts.{ended, IsOneLine}

-- lines that follow one another, each with what it makes of all that the lines before it said
pub data Leads {T : Type 0} (Follows : T → List ℕ → T → Type 0) : T → List (List ℕ) → T → Type 0 where
  no_line : (told : T) → Leads Follows told [] told
  line_then : (told next last : T) (line : List ℕ) (lines : List (List ℕ)) → Follows told line next
      → Leads Follows next lines last → Leads Follows told (line ∷ lines) last

-- the line with this number, from 1, fails, and those before it follow one another and aren't a whole document
pub record FailsAt {T : Type 0} (Follows : T → List ℕ → T → Type 0) (start : T) (IsWhole : T → Type 0)
    (Fails : T → List ℕ → Type 0) (bytes : List ℕ) (n : ℕ) : Type 0 where
  pub lines : List (List ℕ)
  pub told : T
  pub line : List ℕ
  pub rest : List ℕ
  pub document : bytes ≡ flat_map ended lines ++ (ended line ++ rest)
  pub number : n ≡ length lines + 1
  pub one_line : IsOneLine line
  pub before : Leads Follows start lines told
  pub open_ended : IsWhole told → ⊥
  pub fails : Fails told line

-- the lines follow one another and aren't a whole document, and what comes after them has no newline
pub record IsCut {T : Type 0} (Follows : T → List ℕ → T → Type 0) (start : T) (IsWhole : T → Type 0) (bytes : List ℕ) : Type 0 where
  pub lines : List (List ℕ)
  pub told : T
  pub piece : List ℕ
  pub document : bytes ≡ flat_map ended lines ++ piece
  pub no_newline : IsOneLine piece
  pub before : Leads Follows start lines told
  pub open_ended : IsWhole told → ⊥

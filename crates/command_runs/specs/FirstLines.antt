-- The first line of a document. This project's own.
use Rattle.std.specs.Prelude.{◌≡◌, ◌⊎◌, ℕ, ◌≤◌, ◌<◌, List, ◌++◌, length}
use Rattle.adx_io.specs.Lines.{HasNoNewline}
use Rattle.adx_io.specs.Talk.{ended}
use Rattle.command_runs.specs.declared.first.NoLine.{NoLine}
use Rattle.command_runs.specs.Limits.{line_limit}

-- the document begins with this line and its newline
-- Example: the first line of `a`, a newline and `b` is `a`; `ab` has none.
abbrev pub IsFirstLine : List ℕ → List ℕ → Type 0
IsFirstLine document line = HasNoNewline line × ((rest : List ℕ) × (document ≡ ended line ++ rest))

-- and the line is within the limit of a line
abbrev pub IsShortLine : List ℕ → List ℕ → Type 0
IsShortLine document line = IsFirstLine document line × (length line ≤ line_limit)

-- why a document has no first line within the limit: it has no newline; or its first line, or all of it where it has no
-- newline, is too long
abbrev pub HasNoLine : NoLine → List ℕ → Type 0
HasNoLine NoLine.Cut document = HasNoNewline document × (length document ≤ line_limit)
HasNoLine NoLine.Long document =
    ((line : List ℕ) × IsFirstLine document line × (line_limit < length line)) ⊎ (HasNoNewline document × (line_limit < length document))

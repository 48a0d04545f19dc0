-- A row of the table, an option and a help of one, as values that a function has: what they are as those of the definitions.
-- Only private clauses cite it. This project's own.
use Rattle.std.specs.Prelude.{ℕ, List, map, position, Bool, Option}
use Rattle.std.specs.Borrow.{Bor}
use Rattle.std.specs.Str.{bytes_eq}
use Rattle.command_words.specs.Spelling.{Choice, Help, Row}

-- a text that is borrowed
abbrev pub Words : Type 0
Words = Bor (List ℕ)

abbrev pub RawRow : Type 0
RawRow = Words × Bor (List (Words × Words × Bool)) × Words

abbrev pub choice_in : Words × Words × Bool → Choice
choice_in raw = record { name = raw.0.now; value = raw.1.now; needed = raw.2 }

abbrev pub row_in : RawRow → Row
row_in raw = record { word = raw.0.now; options = map choice_in raw.1.now; purpose = raw.2.now }

abbrev pub help_in : Words × Words × Words → Help
help_in raw = record { about = raw.0.now; statuses = raw.1.now; example = raw.2.now }

-- the place of the row of a word
abbrev pub place_in : List ℕ → List RawRow → Option ℕ
place_in word rows = position (λ (raw : RawRow). bytes_eq raw.0.now word) rows

-- The lines of rows, one row more.
use Rattle.std.proofs.Common.{◌≡◌, ℕ, ◌+◌, ◌<◌, List, [], ◌∷◌, ◌++◌, length, take, get_or, sym, ap, ◌∙◌}
use Rattle.std.proofs.lemmas.List.{take_more, flat_map_more}
use Rattle.formats.specs.Parts.{ended}
use Rattle.day_archive.specs.declared.row.DayRow.{DayRow}
use Rattle.command_archive.specs.Lines.{row_line, row_lines}

pub rows_more : (rows : List DayRow) (i : ℕ) (row : DayRow) (before so_far now : List ℕ) → i < length rows → row ≡ get_or rows i row
    → so_far ≡ before ++ row_lines (take i rows) → now ≡ so_far ++ ended (row_line row) → now ≡ before ++ row_lines (take (i + 1) rows)
rows_more rows i row before so_far now below is old new =
    new ∙ ap (λ (bs : List ℕ). bs ++ ended (row_line row)) old ∙ flat_map_more (λ (r : DayRow). ended (row_line r)) before (take i rows) row
    ∙ ap (λ (rs : List DayRow). before ++ row_lines rs) (ap (λ (r : DayRow). take i rows ++ r ∷ []) is ∙ sym (take_more rows i row below))

-- The lines of the commands on the archive: JSON (RFC 8259) in its one compact spelling. This project's own.
use Rattle.std.specs.Prelude.{ℕ, List, [], ◌++◌, Option, Some, None, codes, decimal}
use Rattle.std.specs.List.{flat_map}
use Rattle.adx_units.specs.JsonTexts.{text_spelling}
use Rattle.formats.specs.Parts.{ended}
use Rattle.day_archive.specs.declared.row.DayRow.{DayRow}
use Rattle.day_archive.specs.declared.refusal.KeeperRefusal.{KeeperRefusal}

-- a number of impressions, or null where it isn't known
abbrev pub imps_text : Option ℕ → List ℕ
imps_text None = codes "null"
imps_text (Some imps) = decimal imps

-- the line of a row
abbrev pub row_line : DayRow → List ℕ
row_line row =
    codes "{\"day\":" ++ text_spelling row.day ++ codes ",\"seat\":" ++ text_spelling row.seat ++ codes ",\"cid\":" ++ text_spelling row.cid
    ++ codes ",\"budget\":" ++ decimal row.budget.0 ++ codes ",\"committed\":" ++ decimal row.committed ++ codes ",\"billed\":" ++ decimal row.billed
    ++ codes ",\"bound\":" ++ decimal row.bound ++ codes ",\"imps\":" ++ imps_text row.imps ++ codes "}"

-- the lines of rows, each with its newline
abbrev pub row_lines : List DayRow → List ℕ
row_lines rows = flat_map (λ row. ended (row_line row)) rows

-- the line that says that a day was kept
abbrev pub kept_line : List ℕ → List ℕ
kept_line day = codes "{\"answer\":\"kept\",\"day\":" ++ text_spelling day ++ codes "}"

-- what is written of a refusal: a line with its newline, and nothing of a fault
abbrev pub refusal_text : KeeperRefusal → List ℕ
refusal_text (KeeperRefusal.DayThere day) = ended (codes "{\"answer\":\"keeper\",\"why\":\"daythere\",\"day\":" ++ text_spelling day ++ codes "}")
refusal_text (KeeperRefusal.BadDate day) = ended (codes "{\"answer\":\"keeper\",\"why\":\"baddate\",\"day\":" ++ text_spelling day ++ codes "}")
refusal_text KeeperRefusal.BadRange = ended (codes "{\"answer\":\"keeper\",\"why\":\"badrange\"}")
refusal_text KeeperRefusal.KeeperFault = []

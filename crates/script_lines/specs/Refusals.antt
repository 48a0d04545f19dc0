-- The lines that say why a line is refused, each with its newline: JSON (RFC 8259) in its one compact spelling. This
-- project's own.
use Rattle.std.specs.Prelude.{ℕ, List, ◌++◌, codes, decimal}
use Rattle.adx_units.specs.JsonTexts.{text_spelling}
use Rattle.script_lines.specs.Whys.{why_of, roster_why}
use Rattle.script_lines.specs.declared.refusal.Refusal.{Refusal}
use Rattle.script_lines.specs.declared.refusal.RosterRefusal.{RosterRefusal}

-- the line of a line that is refused; the first line of an input has the number 1
-- Example: `{"answer":"refused","line":3,"why":"call"}`.
abbrev pub refused_line : ℕ → List ℕ → List ℕ
refused_line n why = codes "{\"answer\":\"refused\",\"line\":" ++ decimal n ++ codes ",\"why\":" ++ text_spelling why ++ codes "}\n"

abbrev pub refusal_line : ℕ → Refusal → List ℕ
refusal_line n why = refused_line n (why_of why)

-- the line in which an input passes its limit
abbrev pub toolong_line : ℕ → List ℕ
toolong_line n = refused_line n (codes "toolong")

-- a first line that isn't of its form, and why
abbrev pub roster_refused_line : RosterRefusal → List ℕ
roster_refused_line why = codes "{\"answer\":\"roster\",\"why\":" ++ text_spelling (roster_why why) ++ codes "}\n"

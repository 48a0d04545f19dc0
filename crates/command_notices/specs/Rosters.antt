-- The first line of a document, as a roster. This project's own.
use Rattle.std.specs.Prelude.{◌≡◌, ◌⊎◌, ℕ, List, Result, Ok, Err}
use Rattle.command_runs.specs.declared.first.NoLine.{NoLine}
use Rattle.deal_floor.specs.declared.roster.Roster.{Roster}
use Rattle.command_runs.specs.FirstLines.{HasNoLine, IsShortLine}
use Rattle.script_lines.specs.Rosters.{IsRosterLine, RefusesRosterLine}
use Rattle.script_lines.specs.declared.refusal.RosterLineFault.{RosterLineFault}
use Rattle.script_lines.specs.declared.refusal.RosterRefusal.{RosterRefusal}

-- a document without a first line is refused so
abbrev pub refusal_by : NoLine → RosterRefusal
refusal_by NoLine.Cut = RosterRefusal.Cut
refusal_by NoLine.Long = RosterRefusal.Long

-- the document's first line is this roster's
abbrev pub BeginsWithRoster : List ℕ → Roster → Type 0
BeginsWithRoster document roster = (line : List ℕ) × IsShortLine document line × IsRosterLine line roster

-- why the document's first line is no roster, or why it has none
abbrev pub LacksRoster : List ℕ → RosterRefusal → Type 0
LacksRoster document why =
    ((line : List ℕ) × IsShortLine document line × RefusesRosterLine line why)
    ⊎ ((none : NoLine) × HasNoLine none document × (why ≡ refusal_by none))

-- what was found of the document; where memory was refused nothing is said
abbrev pub FindsFirst : List ℕ → Result Roster RosterLineFault → Type 0
FindsFirst document (Ok roster) = BeginsWithRoster document roster
FindsFirst document (Err (RosterLineFault.Refused why)) = LacksRoster document why
FindsFirst document (Err RosterLineFault.OutOfMemory) = Unit {0}

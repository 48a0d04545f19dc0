-- What the roster line is: a roster, or why it is none. This project's own.
use Rattle.std.specs.Prelude.{◌≡◌, ◌≢◌, ◌⊎◌, ℕ, List, Some, Result, Ok, Err}
use Rattle.adx_json.specs.Tree.{Tree}
use Rattle.adx_json.specs.Grammar.{IsJson}
use Rattle.adx_json.specs.Faults.{IsFault}
use Rattle.adx_json.specs.declared.fault.JsonFault.{JsonFault}
use Rattle.deal_floor.specs.Rosters.{IsRoster, roster_fault}
use Rattle.deal_floor.specs.declared.fault.RosterFault.{RosterFault}
use Rattle.deal_floor.specs.declared.roster.Roster.{Roster}
use Rattle.script_lines.specs.declared.refusal.RosterLineFault.{RosterLineFault}
use Rattle.script_lines.specs.declared.refusal.RosterRefusal.{RosterRefusal}
use Rattle.script_lines.specs.declared.refusal.RosterRefusal.TheVariants.{Json, Member}

-- the line is this roster's, in any spelling of its value
abbrev pub IsRosterLine : List ℕ → Roster → Type 0
IsRosterLine line r = (t : Tree) × IsJson line t × IsRoster t r

-- the value is no roster, and this is the first fault
abbrev pub RefusesValue : Tree → RosterRefusal → Type 0
RefusesValue t why = (f : RosterFault) × (roster_fault t ≡ Some f) × (why ≡ Member f)

-- the line is no roster's: it is no JSON text, or its value is no roster
abbrev pub RefusesRosterLine : List ℕ → RosterRefusal → Type 0
RefusesRosterLine line why =
    ((t : Tree) × IsJson line t × RefusesValue t why)
    ⊎ ((f : JsonFault) × (f ≢ JsonFault.OutOfMemory) × IsFault line f × (why ≡ Json f))

-- what was found of the line's value
abbrev pub FindsRosterValue : Tree → Result Roster RosterLineFault → Type 0
FindsRosterValue t (Ok r) = IsRoster t r
FindsRosterValue t (Err (RosterLineFault.Refused why)) = RefusesValue t why
FindsRosterValue t (Err RosterLineFault.OutOfMemory) = Unit {0}

-- what was found of the line; where memory was refused nothing is told
abbrev pub FindsRoster : List ℕ → Result Roster RosterLineFault → Type 0
FindsRoster line (Ok r) = IsRosterLine line r
FindsRoster line (Err (RosterLineFault.Refused why)) = RefusesRosterLine line why
FindsRoster line (Err RosterLineFault.OutOfMemory) = Unit {0}

-- Documents that no command takes. This project's own.
use Rattle.std.specs.Prelude.{ℕ, List}
use Rattle.command_notices.specs.Rosters.{LacksRoster}
use Rattle.command_bidder.specs.Documents.{LacksPrices}
use Rattle.script_lines.specs.declared.refusal.RosterRefusal.{RosterRefusal}

-- the document's first line is no roster, or it has none
abbrev pub HasNoRoster : List ℕ → Type 0
HasNoRoster document = (why : RosterRefusal) × LacksRoster document why

-- the document's first line is no price line, or it has none
abbrev pub HasNoPrices : List ℕ → Type 0
HasNoPrices document = (why : RosterRefusal) × LacksPrices document why

-- What the calls of a generated day make of a desk, with all that a disk reports as one value. Only private clauses cite this
-- file.
use Rattle.std.specs.Prelude.{ℕ, List, Option, Result}
use Rattle.day_journal.specs.declared.disk.Disk as disk
use Rattle.adx_io.specs.declared.stop.Stop.{Stop}
use Rattle.adx_desk.specs.Desks.{OnDisk}
use Rattle.command_gen.specs.declared.early.EarlyEnd.{EarlyEnd}
use Rattle.command_gen.specs.Taking.{RunsCalls, TakesNumber}
use Rattle.command_runs.specs.declared.outcome.Outcome.{Outcome}
use Rattle.deal_floor.specs.declared.roster.Roster.{Roster}

-- the calls of the ask of this number
abbrev pub DeskTakesNumber : {D : Type 0} → disk.Ghosts D → (old new : OnDisk D) → (seed number : ℕ) → Result (Unit {0}) EarlyEnd → Type 0
DeskTakesNumber d old new seed number result = TakesNumber d.faults d.may_leave d.moment d.left_since old new seed number result

-- those of a day of so many asks, and what was written
abbrev pub DeskRunsCalls : {D : Type 0} → disk.Ghosts D → (old new : OnDisk D) → Roster → (seed asks : ℕ)
    → (held held_now : Option (List ℕ)) → Result Outcome Stop → Type 0
DeskRunsCalls d old new r seed asks held held_now result =
    RunsCalls d.faults d.may_leave d.moment d.left_since old new r seed asks held held_now result

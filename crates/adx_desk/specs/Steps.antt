-- The steps of one who calls a desk, one after another: calls, looks at its history, and readings of its meters. Others
-- may call the desk between them. This project's own.
use Rattle.std.specs.Prelude.{◌≡◌, ℕ, zero, suc, List, [], ◌∷◌}
use mathlib.Core.List.{IsPrefix}
use Rattle.adx_desk.specs.Histories.{DeskTerms}
use Rattle.answer_lines.specs.declared.faults.Fault.{Fault}
use Rattle.day_rules.specs.declared.entry.Entry.{Entry}
use Rattle.day_rules.specs.Legal.{IsLegal}
use Rattle.day_rules.specs.Runs.{Turn}
use Rattle.day_rules.specs.Terms.{Terms}
use Rattle.day_rules.specs.DayMeters.{meters_after}
use Rattle.day_rules.specs.declared.meters.Meters.{Meters}
use Rattle.adx_desk.specs.Called.{Called, Ended, IsCalled, left_by, turn_of, was_done, was_given_up, wanted_memory}

-- a call; a look at a history; or meters that were read, with the history that was seen then
pub data Step : Type 0 where
  took : Called → Step
  looked : List Entry → Step
  metered : List Entry → Meters → Step

-- the history at which it is made
abbrev pub history_at : Step → List Entry
history_at (took c) = c.at
history_at (looked history) = history
history_at (metered history meters) = history

-- the history that it leaves
abbrev pub history_behind : Terms → Step → List Entry
history_behind terms (took c) = left_by terms c
history_behind terms (looked history) = history
history_behind terms (metered history meters) = history

-- How a desk goes on between two calls of one who calls it, and which meters he reads beside a history that he saw.
pub record Way : Type 1 where
  pub goes : List Entry → List Entry → Type 0
  pub reads : List Entry → Meters → Type 0

-- where nobody else calls the desk, its history stays as a step leaves it, and its meters are those of that history
abbrev pub alone : Way
alone = record { goes = λ history next. next ≡ history; reads = λ history meters. meters ≡ meters_after history }

-- Where others call it, they may add entries after the history. Its meters are read of a board, which may show more or
-- less than the history that was seen; what it shows is said where the board is.
abbrev pub shared : Way
shared = record { goes = IsPrefix; reads = λ history meters. Unit {0} }

-- it is one that a desk with these terms answers
-- Example: on a shared desk a caller that saw 3 entries bills an award while another adds one: the call is at a
-- history of 4, and leaves 5.
abbrev pub IsStep : Way → DeskTerms → Step → Type 0
IsStep way terms (took c) = IsCalled terms c
IsStep way terms (looked history) = IsLegal terms.day history
IsStep way terms (metered history meters) = IsLegal terms.day history × way.reads history meters

-- Steps from a history that was seen to one that is seen now. From what a step leaves the history goes to that of the next
-- one, and from what the last leaves to the one now.
abbrev pub AreSteps : Way → DeskTerms → List Entry → List Step → List Entry → Type 0
AreSteps way terms seen [] now = way.goes seen now
AreSteps way terms seen (step ∷ steps) now =
    way.goes seen (history_at step) × IsStep way terms step × AreSteps way terms (history_behind terms.day step) steps now

-- the calls among the steps
abbrev pub calls_of : List Step → List Called
calls_of [] = []
calls_of (took c ∷ steps) = c ∷ calls_of steps
calls_of (looked history ∷ steps) = calls_of steps
calls_of (metered history meters ∷ steps) = calls_of steps

-- and as turns of a run
abbrev pub turns_of : List Step → List Turn
turns_of [] = []
turns_of (took c ∷ steps) = turn_of c ∷ turns_of steps
turns_of (looked history ∷ steps) = turns_of steps
turns_of (metered history meters ∷ steps) = turns_of steps

-- how many of them the disk's fault gave up
abbrev pub faults_by : Ended → ℕ → ℕ
faults_by was_done more = more
faults_by (was_given_up Fault.Disk) more = suc more
faults_by (was_given_up (Fault.JournalFull size)) more = more
faults_by wanted_memory more = more

-- how many of the calls a fault of the disk gave up
abbrev pub disk_faults : List Step → ℕ
disk_faults [] = zero
disk_faults (took c ∷ steps) = faults_by c.ended (disk_faults steps)
disk_faults (looked history ∷ steps) = disk_faults steps
disk_faults (metered history meters ∷ steps) = disk_faults steps

-- the meters that were read, in order
abbrev pub meters_read : List Step → List Meters
meters_read [] = []
meters_read (took c ∷ steps) = meters_read steps
meters_read (looked history ∷ steps) = meters_read steps
meters_read (metered history meters ∷ steps) = meters ∷ meters_read steps

-- The calls among the steps of one who owns a desk, as a run says them. This project's own.
use Rattle.std.specs.Prelude.{List, [], ◌∷◌, ◌++◌, Option, Some, None}
use Rattle.answer_lines.specs.declared.faults.Fault.{Fault}
use Rattle.day_rules.specs.declared.answer.Answer.{Answer}
use Rattle.day_rules.specs.Laws.{Arrival}
use Rattle.adx_desk.specs.Called.{Called, Ended, wanted_memory, was_done, was_given_up}
use Rattle.adx_desk.specs.Steps.{Step, looked, metered, took}
use Rattle.adx_desk.specs.Together.{call_by}
use Rattle.adx_desk.specs.Meanings.{Told}

-- a call by how it ended; one for which memory was refused wasn't taken
abbrev pub told_as : Called → Ended → List Told
told_as c was_done = record { call = c.call; fault = None } ∷ []
told_as c (was_given_up fault) = record { call = c.call; fault = Some fault } ∷ []
told_as c wanted_memory = []

-- the calls among the steps, in their order: looks at the history and at the meters are no calls
abbrev pub told_of : List Step → List Told
told_of [] = []
told_of (took c ∷ steps) = told_as c c.ended ++ told_of steps
told_of (looked history ∷ steps) = told_of steps
told_of (metered history meters ∷ steps) = told_of steps

-- the notice was done with this answer, or given up by the disk's fault
abbrev pub told_by : Arrival → Option Answer → Told
told_by x None = record { call = call_by x; fault = Some Fault.Disk }
told_by x (Some answer) = record { call = call_by x; fault = None }

-- the notices with their outcomes
abbrev pub told_all : List Arrival → List (Option Answer) → List Told
told_all [] outcomes = []
told_all (x ∷ notices) [] = []
told_all (x ∷ notices) (o ∷ outcomes) = told_by x o ∷ told_all notices outcomes

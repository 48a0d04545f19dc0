-- What follows of steps that come one after another. This project's own.
use Rattle.std.specs.Prelude.{◌≡◌, List, ◌∷◌, ◌++◌}
use mathlib.Core.List.{IsPrefix}
use Rattle.adx_desk.specs.Histories.{DeskTerms}
use Rattle.day_rules.specs.declared.entry.Entry.{Entry}
use Rattle.day_rules.specs.Runs.{run}
use Rattle.adx_desk.specs.Steps.{AreSteps, Step, alone, history_at, history_behind, shared, turns_of}

-- Between two steps of one who calls a shared desk no history is shorter than what the step before leaves, nor longer than
-- that of the step after: the first goes to the one between, and that to the second.
abbrev pub EachBetween : Type 0
EachBetween =
    (terms : DeskTerms) (seen now : List Entry) (front back : List Step) (before one behind : Step)
    → AreSteps shared terms seen (front ++ before ∷ one ∷ behind ∷ back) now
    → IsPrefix (history_behind terms.day before) (history_at one) × IsPrefix (history_behind terms.day one) (history_at behind)

-- Where nobody else calls the desk, each step is at the history after the calls before it, and the last leaves the one now.
abbrev pub OwnedRun : Type 0
OwnedRun =
    (terms : DeskTerms) (seen now : List Entry) (front back : List Step) (one : Step)
    → AreSteps alone terms seen (front ++ one ∷ back) now
    → (history_at one ≡ run terms.day seen (turns_of front)) × (now ≡ run terms.day seen (turns_of (front ++ one ∷ back)))

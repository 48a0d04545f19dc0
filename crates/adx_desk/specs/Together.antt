-- Notices that a desk takes together, and those that it takes one by one. This project's own.
use Rattle.std.specs.Prelude.{◌≡◌, List, [], ◌∷◌, Option, Some, None}
use Rattle.answer_lines.specs.declared.faults.Fault.{Fault}
use Rattle.day_rules.specs.declared.answer.Answer.{Answer}
use Rattle.day_rules.specs.declared.entry.Entry.{Entry}
use Rattle.day_rules.specs.Laws.{Arrival, after_arrival, arrival_reply}
use Rattle.day_rules.specs.Replies.{Call, notice}
use Rattle.adx_desk.specs.Called.{Called, was_done, was_given_up}
use Rattle.adx_desk.specs.Steps.{Step, took}

-- a notice as a call
abbrev pub call_by : Arrival → Call
call_by x = notice x.kind x.auction x.award

-- notices that were all done, each at the history that those before it leave
abbrev pub took_in_turn : List Entry → List Arrival → List Step
took_in_turn history [] = []
took_in_turn history (x ∷ xs) =
    took (record { at = history; call = call_by x; ended = was_done }) ∷ took_in_turn (after_arrival history x) xs

-- a notice that was taken at a history, with this outcome: its answer, or none where the disk's fault gave it up
abbrev pub noticed : List Entry → Arrival → Option Answer → Called
noticed at x None = record { at = at; call = call_by x; ended = was_given_up Fault.Disk }
noticed at x (Some answer) = record { at = at; call = call_by x; ended = was_done }

-- the outcome is the one that this history gives it
abbrev pub IsOutcome : List Entry → Arrival → Option Answer → Type 0
IsOutcome at x None = Unit {0}
IsOutcome at x (Some answer) = answer ≡ (arrival_reply at x).answer

-- these steps are just those notices, one after another, with these outcomes, each by the history at which it was taken
abbrev pub AreNoticed : List Arrival → List (Option Answer) → List Step → Type 0
AreNoticed [] [] steps = steps ≡ []
AreNoticed [] (o ∷ outcomes) steps = ⊥
AreNoticed (x ∷ notices) [] steps = ⊥
AreNoticed (x ∷ notices) (o ∷ outcomes) steps =
    (at : List Entry) × (rest : List Step) × (steps ≡ took (noticed at x o) ∷ rest) × IsOutcome at x o × AreNoticed notices outcomes rest

-- a desk took these notices, one after another, with these outcomes
pub record TakesNotices {Y : Type 0} (runs : Y → Y → List Step → Type 0) (old new : Y) (notices : List Arrival)
    (outcomes : List (Option Answer)) : Type 0 where
  pub steps : List Step
  pub are : AreNoticed notices outcomes steps
  pub ran : runs old new steps

-- What a pass of a desk that threads share gains by the steps that it makes. This project's own.
use Rattle.std.specs.Prelude.{◌≡◌, ◌⊎◌, ◌≤◌, ℕ, ◌+◌, List, [], ◌∷◌, ◌++◌, length, Result, Ok, Err}
use Rattle.std.specs.Borrow.{Bor}
use Rattle.std.specs.List.{AllZip}
use mathlib.Core.List.{IsPrefix}
use Rattle.adx_desk.specs.Rosters.{desk_terms}
use Rattle.adx_desk.specs.Histories.{DeskTerms}
use Rattle.adx_desk.specs.Shared.{call_of}
use Rattle.adx_desk.specs.declared.fault.DeskFault.{DeskFault}
use Rattle.adx_desk.specs.declared.turn.Turn.{Turn}
use Rattle.day_rules.specs.declared.answer.Answer.{Answer}
use Rattle.deal_floor.specs.declared.roster.Roster.{Roster}
use Rattle.adx_desk.specs.Called.{Called, Ended, was_done}
use Rattle.adx_desk.specs.DayDesks.{ended_by}
use Rattle.adx_desk.specs.Steps.{AreSteps, Step, calls_of, disk_faults, meters_read, shared}
use Rattle.day_rules.specs.Steps.{meters_of}
use Rattle.day_rules.specs.declared.meters.Meters.{Meters}
use Rattle.day_rules.specs.declared.step.MeterStep.{MeterStep}
use Rattle.shared_desk.specs.Callers.{DeskPass}
use Rattle.turnstile.specs.Passes.{IsSamePass}
use Rattle.turnstile.specs.declared.limits.TheConstants.{LAST_COUNT}
use Rattle.turnstile.specs.declared.noted.Noted.{Noted}

-- how a turn's call ended
abbrev pub ended_of : Result Answer DeskFault → Ended
ended_of (Ok answer) = was_done
ended_of (Err fault) = ended_by fault

-- a pass notes this call: at the length of its history, with its outcome
pub record IsNotedAs (n : Noted Turn) (c : Called) : Type 0 where
  pub at : n.at ≡ length c.at
  pub call : call_of n.turn.call ≡ c.call
  pub ended : ended_of n.turn.ended ≡ c.ended

-- so many faults more are counted, unless the number stands at its last value
abbrev pub HaveRisen : ℕ → ℕ → ℕ → Type 0
HaveRisen more before now = (before + more ≤ now) ⊎ (LAST_COUNT ≤ now)

-- The pass p made these steps on its desk, whose terms are these, and became q: its turns are those of the calls among them,
-- and the histories that it saw go on from step to step.
pub record Gains (terms : DeskTerms) (p q : DeskPass) (steps : List Step) : Type 0 where
  pub noted : List (Noted Turn)
  pub turns : q.turns ≡ p.turns ++ noted
  pub are : AllZip IsNotedAs noted (calls_of steps)
  pub along : AreSteps shared terms p.seen steps q.seen
  -- the faults of the disk among the calls were counted
  pub no_fewer : p.faults ≤ q.faults
  pub counted : HaveRisen (disk_faults steps) p.faults q.faults
  pub same : IsSamePass p q

-- meters that were read of a board, one behind another: each of a list that begins with the one before it
abbrev pub AreRead : List MeterStep → List Meters → List MeterStep → Type 0
AreRead seen [] now = IsPrefix seen now
AreRead seen (m ∷ meters) now =
    (list : List MeterStep) × IsPrefix seen list × (m ≡ meters_of list) × AreRead list meters now

-- one who reads meters: where he reads them, and the steps that he has seen
pub record Viewed (O : Type 0) : Type 0 where
  pub origin : O
  pub seen : List MeterStep

abbrev pub viewed : {O : Type 0} → O → List MeterStep → Viewed O
viewed origin seen = record { origin = origin; seen = seen }

-- a pass, and one who reads meters, made these steps with the roster that the desk was opened with
pub record PassRuns {O : Type 0} (r r_now : Bor Roster) (p q : DeskPass) (v w : Viewed O) (steps : List Step) : Type 0 where
  pub roster : r_now ≡ r
  pub gains : Gains (desk_terms r.now) p q steps
  pub read : AreRead v.seen (meters_read steps) w.seen
  pub origin : w.origin ≡ v.origin

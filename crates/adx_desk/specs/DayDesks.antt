-- What a call on a desk says of itself: the history at which it was taken, what it was answered there, and all else that
-- is said of the step. This project's own.
use Rattle.std.specs.Prelude.{◌≡◌, ℕ, List, [], ◌∷◌, Option, Some, None}
use Rattle.adx_desk.specs.Asked.{ask_for}
use Rattle.adx_desk.specs.Lines.{told_as}
use Rattle.adx_desk.specs.Rosters.{desk_terms}
use Rattle.adx_desk.specs.declared.done.Done.{Done}
use Rattle.adx_desk.specs.declared.fault.DeskFault.{DeskFault}
use Rattle.answer_lines.specs.Table.{closing_table}
use Rattle.answer_lines.specs.declared.faults.Fault.{Fault}
use Rattle.day_rules.specs.declared.answer.Answer.{Answer}
use Rattle.day_rules.specs.declared.ask.Ask.{Ask}
use Rattle.day_rules.specs.declared.entry.Entry.{Entry}
use Rattle.day_rules.specs.Laws.{Arrival, arrival_reply}
use Rattle.day_rules.specs.Entries.{BudgetChange}
use Rattle.day_rules.specs.Replies.{Call, ask, set_budget, tick, ask_reply, budget_reply, tick_reply, with_entry}
use Rattle.day_rules.specs.Terms.{Terms}
use Rattle.deal_floor.specs.declared.roster.Roster.{Roster}
use Rattle.day_machine.specs.Batches.{BatchState, answers_in_turn}
use Rattle.adx_desk.specs.Called.{Ended, wanted_memory, was_done, was_given_up}
use Rattle.adx_desk.specs.Steps.{Step, looked, metered, took}
use Rattle.day_rules.specs.declared.meters.Meters.{Meters}
use Rattle.adx_desk.specs.Together.{call_by, took_in_turn}

-- given up by the disk's fault
abbrev pub fault_of_disk : Ended
fault_of_disk = was_given_up Fault.Disk

-- how a call ended that answered this fault: one that no line says is out of memory
abbrev pub ended_as : Option Fault → Ended
ended_as None = wanted_memory
ended_as (Some fault) = was_given_up fault

-- how a call ended that this fault gave up
abbrev pub ended_by : DeskFault → Ended
ended_by fault = ended_as (told_as fault)

module _ {Y : Type 0} (runs : Y → Y → List Step → Type 0) (old new : Y) where
  -- this call was taken at a history of which this is so, and ended so
  abbrev pub Takes : Call → Ended → (List Entry → Type 0) → Type 0
  Takes call ended IsAt = (at : List Entry) × runs old new (took (record { at = at; call = call; ended = ended }) ∷ []) × IsAt at

  -- the history was looked at, and this is so of it
  abbrev pub Looks : (List Entry → Type 0) → Type 0
  Looks IsAt = (at : List Entry) × runs old new (looked at ∷ []) × IsAt at

  -- a tick was done, with this answer
  abbrev pub IsTicked : ℕ → Answer → Type 0
  IsTicked now answer = Takes (tick now) was_done (λ at. answer ≡ (tick_reply at now).answer)

  -- a notice was done, with this answer
  abbrev pub IsNoticed : Arrival → Answer → Type 0
  IsNoticed x answer = Takes (call_by x) was_done (λ at. answer ≡ (arrival_reply at x).answer)

  -- a change of a budget was done, with this answer
  abbrev pub IsChanged : Terms → BudgetChange → Answer → Type 0
  IsChanged terms x answer = Takes (set_budget x) was_done (λ at. answer ≡ (budget_reply terms at x).answer)

  -- these meters were read
  abbrev pub Reads : Meters → Type 0
  Reads meters = (at : List Entry) × runs old new (metered at meters ∷ [])

  -- the notices of a batch were done, one after another, and the batch has their answers
  abbrev pub RanTogether : BatchState → BatchState → Type 0
  RanTogether batch batch_now =
      (at : List Entry) × runs old new (took_in_turn at batch.calls) × (batch_now ≡ record batch { answers = Some (answers_in_turn at batch.calls) })

-- an ask's answer at a history, and a copy of the ask that the history after it keeps for the answer
pub record IsDoneAt (terms : Terms) (a : Ask) (done : Done) (at : List Entry) : Type 0 where
  pub answer : done.answer ≡ (ask_reply terms at a).answer
  pub copy : done.ask ≡ ask_for (with_entry at (ask_reply terms at a).entry) done.answer

-- an ask was done
abbrev pub IsAsked : Terms → {Y : Type 0} → (Y → Y → List Step → Type 0) → Y → Y → Ask → Done → Type 0
IsAsked terms runs old new a done = Takes runs old new (ask a) was_done (IsDoneAt terms a done)

-- the bytes are the closing table of a history of the roster's day
abbrev pub ShowsBooks : Roster → List Entry → List ℕ → Type 0
ShowsBooks r at bytes = bytes ≡ closing_table r.campaigns (desk_terms r).day at

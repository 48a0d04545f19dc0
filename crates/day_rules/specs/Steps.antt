-- The meters of a list of steps. This project's own.
use Rattle.std.specs.Prelude.{ℕ, ◌+◌, ◌-◌, ◌<◌, ◌^◌, List, length, take, fold}
use Rattle.day_rules.specs.declared.meters.Meters.{Meters}
use Rattle.day_rules.specs.declared.step.MeterStep.{MeterStep}
use Rattle.day_rules.specs.declared.step.StepKind.{StepKind}

-- the meters of a day without entries
-- Example: an ask with one award of 7 and then its bill: entries 2, asks 1, awards 1, bills 1, reserved 0, billed
-- 7.
abbrev pub no_meters : Meters
no_meters = record {
  entries = 0;
  asks = 0;
  awards = 0;
  wins = 0;
  bills = 0;
  losses = 0;
  expired = 0;
  reserved = 0;
  billed = 0;
}

-- what an entry of each kind does, with the awards that it makes or ends and their charges, beside adding itself
abbrev pub after_kind : StepKind → ℕ → ℕ → Meters → Meters
after_kind StepKind.Ask count money m =
    record m { asks = m.asks + 1; awards = m.awards + count; reserved = m.reserved + money }
after_kind StepKind.Win count money m = record m { wins = m.wins + 1 }
after_kind StepKind.Bill count money m =
    record m { bills = m.bills + 1; reserved = m.reserved - money; billed = m.billed + money }
after_kind StepKind.Loss count money m = record m { losses = m.losses + 1; reserved = m.reserved - money }
after_kind StepKind.Expire count money m = record m { expired = m.expired + count; reserved = m.reserved - money }
after_kind StepKind.Budget count money m = m

-- the meters after one more step
abbrev pub after : Meters → MeterStep → Meters
after m s = after_kind s.kind s.count s.money (record m { entries = m.entries + 1 })

-- the meters of these steps: their fold
abbrev pub meters_of : List MeterStep → Meters
meters_of steps = fold after no_meters steps

-- each number is below 2^64
pub record InRange (m : Meters) : Type 0 where
  pub entries : m.entries < 2 ^ 64
  pub asks : m.asks < 2 ^ 64
  pub awards : m.awards < 2 ^ 64
  pub wins : m.wins < 2 ^ 64
  pub bills : m.bills < 2 ^ 64
  pub losses : m.losses < 2 ^ 64
  pub expired : m.expired < 2 ^ 64
  pub reserved : m.reserved < 2 ^ 64
  pub billed : m.billed < 2 ^ 64

-- the meters stay in their range whichever of the steps were taken, from the first one on
abbrev pub StayInRange : Meters → List MeterStep → Type 0
StayInRange from steps = (k : ℕ) → k < length steps → InRange (fold after from (take (k + 1) steps))

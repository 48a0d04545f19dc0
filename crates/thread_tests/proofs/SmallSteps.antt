-- A small step leaves small meters within their range.
use Rattle.std.proofs.Common.{ℕ, ◌+◌, ◌≤◌, arith}
use Rattle.day_rules.specs.declared.meters.Meters.{Meters}
use Rattle.day_rules.specs.declared.step.MeterStep.{MeterStep}
use Rattle.day_rules.specs.declared.step.StepKind.{StepKind}
use Rattle.day_rules.specs.Steps.{after, after_kind, InRange}
use Rattle.thread_tests.specs.Small.{IsSmall}

small_kind : (k : StepKind) (count money : ℕ) (m : Meters) → IsSmall m → count ≤ 1099511627776 → money ≤ 1099511627776
    → InRange (after_kind k count money (record m { entries = m.entries + 1 }))
small_kind StepKind.Ask count money m s c n = record { entries = omega (arith, s.entries); asks = omega (arith, s.asks); awards = omega (arith, s.awards); wins = omega (arith, s.wins); bills = omega (arith, s.bills); losses = omega (arith, s.losses); expired = omega (arith, s.expired); reserved = omega (arith, s.reserved); billed = omega (arith, s.billed) }
small_kind StepKind.Win count money m s c n = record { entries = omega (arith, s.entries); asks = omega (arith, s.asks); awards = omega (arith, s.awards); wins = omega (arith, s.wins); bills = omega (arith, s.bills); losses = omega (arith, s.losses); expired = omega (arith, s.expired); reserved = omega (arith, s.reserved); billed = omega (arith, s.billed) }
small_kind StepKind.Bill count money m s c n = record { entries = omega (arith, s.entries); asks = omega (arith, s.asks); awards = omega (arith, s.awards); wins = omega (arith, s.wins); bills = omega (arith, s.bills); losses = omega (arith, s.losses); expired = omega (arith, s.expired); reserved = omega (arith, s.reserved); billed = omega (arith, s.billed) }
small_kind StepKind.Loss count money m s c n = record { entries = omega (arith, s.entries); asks = omega (arith, s.asks); awards = omega (arith, s.awards); wins = omega (arith, s.wins); bills = omega (arith, s.bills); losses = omega (arith, s.losses); expired = omega (arith, s.expired); reserved = omega (arith, s.reserved); billed = omega (arith, s.billed) }
small_kind StepKind.Expire count money m s c n = record { entries = omega (arith, s.entries); asks = omega (arith, s.asks); awards = omega (arith, s.awards); wins = omega (arith, s.wins); bills = omega (arith, s.bills); losses = omega (arith, s.losses); expired = omega (arith, s.expired); reserved = omega (arith, s.reserved); billed = omega (arith, s.billed) }
small_kind StepKind.Budget count money m s c n = record { entries = omega (arith, s.entries); asks = omega (arith, s.asks); awards = omega (arith, s.awards); wins = omega (arith, s.wins); bills = omega (arith, s.bills); losses = omega (arith, s.losses); expired = omega (arith, s.expired); reserved = omega (arith, s.reserved); billed = omega (arith, s.billed) }

pub small_after : (m : Meters) (s : MeterStep) → IsSmall m → s.count ≤ 1099511627776 → s.money ≤ 1099511627776 → InRange (after m s)
small_after m s small c n = small_kind s.kind s.count s.money m small c n

-- The meters of a history, and what each of its entries does to them. This project's own.
use Rattle.std.specs.Prelude.{ℕ, Bool, true, false, List, map, length, take, if◌then◌else◌, Option, Some, None, slice_get}
use Rattle.std.specs.List.{count_by, sum_by, enumerate_from}
use Rattle.std.specs.Option.{option_map_or}
use Rattle.notice_book.specs.declared.award.Award.{Award}
use Rattle.notice_book.specs.declared.award.End.{End}
use Rattle.notice_book.specs.declared.kind.NoticeKind.{NoticeKind}
use Rattle.notice_book.specs.AwardList.{due_count}
use Rattle.notice_book.specs.Rules.{is_open, is_billed, is_due}
use Rattle.day_rules.specs.declared.entry.Entry.{Entry}
use Rattle.day_rules.specs.Entries.{noticed, same_kind}
use Rattle.day_rules.specs.Books.{ask_count, awards_of, sales_of}
use Rattle.day_rules.specs.declared.meters.Meters.{Meters}
use Rattle.day_rules.specs.declared.step.MeterStep.{MeterStep}
use Rattle.day_rules.specs.declared.step.StepKind.{StepKind}

-- an award ended because its deadline passed
abbrev pub is_expired : Option End → Bool
is_expired None = false
is_expired (Some End.Billed) = false
is_expired (Some End.Lost) = false
is_expired (Some End.Expired) = true

-- 1 for an award that expired, and 0 for another
abbrev pub one_expired : Award → ℕ
one_expired w = if is_expired w.end then 1 else 0

-- the charge of an award whose end passes a test, and 0 of another
abbrev pub charge_if : (Option End → Bool) → Award → ℕ
charge_if test w = if test w.end then w.charge.0 else 0

-- the charges of all awards whose end passes a test
abbrev pub money_where : (Option End → Bool) → List Award → ℕ
money_where test awards = sum_by (charge_if test) awards

-- the entry counts a notice of that kind
abbrev pub is_notice : NoticeKind → Entry → Bool
is_notice kind e = option_map_or (λ x. same_kind x.kind kind) (noticed e) false

-- the meters of a history
abbrev pub meters_after : List Entry → Meters
meters_after history = record {
  entries = length history;
  asks = ask_count history;
  awards = length (awards_of history);
  wins = count_by (is_notice NoticeKind.Win) history;
  bills = count_by (is_notice NoticeKind.Bill) history;
  losses = count_by (is_notice NoticeKind.Loss) history;
  expired = count_by (λ w. is_expired w.end) (awards_of history);
  reserved = money_where is_open (awards_of history);
  billed = money_where is_billed (awards_of history);
}

-- the charge of the award with that number
abbrev pub charge_of : ℕ → List Award → ℕ
charge_of n awards = option_map_or (λ w. w.charge.0) (slice_get awards n) 0

-- the charge of an award that a moment ends, and 0 of another
abbrev pub charge_due : ℕ → Award → ℕ
charge_due now w = if is_due now w then w.charge.0 else 0

-- what an entry after a history does: the awards that it makes, wins or ends, and the charges of those it makes or ends
abbrev pub step_of : List Entry → Entry → MeterStep
step_of history (Entry.Ask a) =
    record { kind = StepKind.Ask; count = length (sales_of a); money = sum_by (λ s. s.charge) (sales_of a) }
step_of history (Entry.Win n) = record { kind = StepKind.Win; count = 1; money = 0 }
step_of history (Entry.Bill n) = record { kind = StepKind.Bill; count = 1; money = charge_of n (awards_of history) }
step_of history (Entry.Loss n) = record { kind = StepKind.Loss; count = 1; money = charge_of n (awards_of history) }
step_of history (Entry.Expire now) = record {
  kind = StepKind.Expire;
  count = due_count now (awards_of history);
  money = sum_by (charge_due now) (awards_of history);
}
step_of history (Entry.Budget campaign change budget) = record { kind = StepKind.Budget; count = 0; money = 0 }

-- the steps of a history: each entry's, after the entries before it
abbrev pub steps_of : List Entry → List MeterStep
steps_of history = map (λ (p : ℕ × Entry). step_of (take p.0 history) p.1) (enumerate_from 0 history)

-- The notices so far were added.
use Rattle.std.proofs.Common.{◌≡◌, take}
use Rattle.day_rules.specs.Books.{awards_of}
use Rattle.day_rules.specs.DayState.{IsDay}
use Rattle.day_rules.specs.Laws.{after_arrivals}
use Rattle.day_machine.specs.Held.{open_count}
use Rattle.day_machine.proofs.waiting.commit_all.Given as goal

abbrev pub invariant-loop-place : goal.invariant-loop-place
invariant-loop-place l = record {
  terms : l.day.terms ≡ l.fn.day.terms;
  legal : IsDay l.day.terms l.day.history;
  history : l.day.history ≡ after_arrivals l.fn.day.history (take l.place l.calls);
  counted : l.left ≡ open_count (awards_of l.day.history);
}

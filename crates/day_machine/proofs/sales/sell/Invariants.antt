use Rattle.std.proofs.Common.{◌≡◌, ◌≤◌, ◌+◌, ◌++◌, ℕ, length, get_or}
use Rattle.day_machine.specs.LedgerState.{no_places}
use Rattle.day_machine.specs.Selling.{awards_below}
use Rattle.day_machine.proofs.sales.sell.Given as goal

abbrev pub invariant-loop-imp : goal.invariant-loop-imp
invariant-loop-imp l = record {
  budgets : l.ledger.budgets ≡ l.initial.ledger.budgets;
  awards : l.ledger.awards ≡ l.initial.ledger.awards ++ awards_below l.place l.ask.now l.ask.offers l.imp;
  places : (n : ℕ) → get_or l.ledger.places n no_places ≡ get_or l.initial.ledger.places n no_places;
  room : l.initial.ledger.room ≤ l.ledger.room + length (awards_below l.place l.ask.now l.ask.offers l.imp);
}

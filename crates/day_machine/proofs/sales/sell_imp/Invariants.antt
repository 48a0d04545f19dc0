use Rattle.std.proofs.Common.{◌≡◌, ◌≤◌, ◌+◌, ◌++◌, ℕ, length, take, get_or}
use Rattle.day_machine.specs.LedgerState.{no_places}
use Rattle.day_machine.specs.Selling.{imp_awards}
use Rattle.day_machine.proofs.sales.sell_imp.Given as goal

abbrev pub invariant-loop-offer : goal.invariant-loop-offer
invariant-loop-offer l = record {
  budgets : l.ledger.budgets ≡ l.initial.ledger.budgets;
  awards : l.ledger.awards ≡ l.initial.ledger.awards ++ imp_awards l.place l.now (take l.offer-index l.offers) l.imp;
  places : (n : ℕ) → get_or l.ledger.places n no_places ≡ get_or l.initial.ledger.places n no_places;
  room : l.initial.ledger.room ≤ l.ledger.room + length (imp_awards l.place l.now (take l.offer-index l.offers) l.imp);
}

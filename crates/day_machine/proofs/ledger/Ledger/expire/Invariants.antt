use Rattle.std.proofs.Common.{◌≡◌}
use Rattle.notice_book.specs.AwardList.{due_count, expired_by}
use Rattle.day_machine.proofs.ledger.Ledger.expire.Given as goal

abbrev pub invariant-loop : goal.invariant-loop
invariant-loop l = record {
  budgets : l.self.budgets ≡ l.initial.self.budgets;
  awards : expired_by l.now l.self.awards ≡ expired_by l.now l.initial.self.awards;
  places : l.self.places ≡ l.initial.self.places;
  room : l.self.room ≡ l.initial.self.room;
}

abbrev pub decreases-loop : goal.decreases-loop
decreases-loop l = due_count l.now l.self.awards

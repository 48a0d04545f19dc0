use Rattle.std.proofs.Common.{◌≡◌}
use Rattle.std.specs.List.{sum_by, range_with_len}
use Rattle.campaign_book.specs.Accounts.{account_at}
use Rattle.day_machine.proofs.reserving.reserved_of.Given as goal

abbrev pub invariant-loop-c : goal.invariant-loop-c
invariant-loop-c l = l.sum ≡ sum_by (λ c. (account_at l.book c).reserved) (range_with_len 0 l.c)

-- What a contract sees of a day that keeps its meters. This project's own.
use Rattle.std.specs.Prelude.{ℕ, min}
use Rattle.std.specs.List.{sum_by, range_with_len}
use Rattle.std.specs.Prelude.{List, length}
use Rattle.campaign_book.specs.Accounts.{Account, account_at}
use Rattle.day_rules.specs.DayState.{DayState}

-- a day beside memory for so many steps: it has room for no more entries than for steps
abbrev pub metered : DayState → ℕ → DayState
metered day steps = record day { room = record day.room { entries = min day.room.entries steps } }

-- what is reserved of all campaigns' budgets
abbrev pub reserved_in_all : List Account → ℕ
reserved_in_all accounts = sum_by (λ c. (account_at accounts c).reserved) (range_with_len 0 (length accounts))

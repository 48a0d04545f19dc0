-- The ask that an answer to an ask speaks of. This project's own.
use Rattle.std.specs.Prelude.{List, Option, None}
use Rattle.day_rules.specs.declared.answer.Answer.{Answer}
use Rattle.day_rules.specs.declared.ask.Ask.{Ask}
use Rattle.day_rules.specs.declared.entry.Entry.{Entry}
use Rattle.day_rules.specs.Books.{ask_at}

-- the ask at the place that the answer names, if it is an answer to an ask that is in the history
abbrev pub ask_for : List Entry → Answer → Option Ask
ask_for history (Answer.Awarded entry) = ask_at history entry
ask_for history (Answer.NoSale entry) = ask_at history entry
ask_for history (Answer.Repeat entry) = ask_at history entry
ask_for history Answer.Counted = None
ask_for history (Answer.Conflict kept) = None
ask_for history Answer.Unknown = None
ask_for history (Answer.Ticked ended) = None
ask_for history (Answer.Reused kept given) = None
ask_for history (Answer.DayFull which count) = None
ask_for history Answer.Budgeted = None
ask_for history (Answer.BudgetReused kept) = None
ask_for history (Answer.Late last) = None
ask_for history (Answer.BelowCommitted committed) = None
ask_for history Answer.NoCampaign = None

-- That the line of a call that was given up is the line of no answer, so that which calls were given up is read from the
-- output. This project's own.
use Rattle.std.specs.Prelude.{◌≢◌, List, Option}
use Rattle.day_rules.specs.declared.answer.Answer.{Answer}
use Rattle.day_rules.specs.declared.ask.Ask.{Ask}
use Rattle.deal_floor.specs.declared.campaign.Campaign.{Campaign}
use Rattle.answer_lines.specs.declared.faults.Fault.{Fault}
use Rattle.answer_lines.specs.Answers.{answer_line, fault_line}

-- No answer of any call, with any ask, has the line of a fault.
abbrev pub FaultsAreApart : Type 0
FaultsAreApart =
    (campaigns : List Campaign) (answer : Answer) (ask : Option Ask) (fault : Fault) → answer_line campaigns answer ask ≢ fault_line fault

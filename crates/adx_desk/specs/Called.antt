-- A call on a desk that others may call too: the history at which it was taken, and how it ended. This project's own.
use Rattle.std.specs.Prelude.{List, length}
use Rattle.adx_desk.specs.Histories.{DeskTerms}
use Rattle.adx_desk.specs.Shared.{MayBeFull}
use Rattle.answer_lines.specs.declared.faults.Fault.{Fault}
use Rattle.day_rules.specs.declared.entry.Entry.{Entry}
use Rattle.day_rules.specs.Legal.{IsLegal}
use Rattle.day_rules.specs.Replies.{Call, ask, notice, set_budget, tick, reply}
use Rattle.day_rules.specs.Runs.{IsCall, Outcome, Turn, done, faulted, after_turn}
use Rattle.day_rules.specs.Terms.{Terms}

-- how a call ended: it was done; it was given up by this fault; or memory was refused before it was taken
pub data Ended : Type 0 where
  was_done : Ended
  was_given_up : Fault → Ended
  wanted_memory : Ended

-- a call, the history at which it was taken, and how it ended
pub record Called : Type 0 where
  pub at : List Entry
  pub call : Call
  pub ended : Ended

-- only a call that was done adds what its reply adds
abbrev pub outcome_of : Ended → Outcome
outcome_of was_done = done
outcome_of (was_given_up fault) = faulted
outcome_of wanted_memory = faulted

-- the call as a turn of a run
abbrev pub turn_of : Called → Turn
turn_of c = record { call = c.call; outcome = outcome_of c.ended }

-- the history that the call leaves
abbrev pub left_by : Terms → Called → List Entry
left_by terms c = after_turn terms c.at (turn_of c)

-- Only these calls take memory, and room in the journal that isn't held for them: asks, and changes of a budget.
abbrev pub IsRoomy : Call → Type 0
IsRoomy (ask a) = Unit {0}
IsRoomy (notice kind auction award) = ⊥
IsRoomy (tick now) = ⊥
IsRoomy (set_budget x) = Unit {0}

-- A call may end so: done, or given up by the disk's fault; one that takes memory and room may want memory, or find the
-- journal full of the entry that its reply has, and is answered a size that it may come to.
abbrev pub MayEnd : DeskTerms → List Entry → Call → Ended → Type 0
MayEnd terms history call was_done = Unit {0}
MayEnd terms history call (was_given_up Fault.Disk) = Unit {0}
MayEnd terms history call (was_given_up (Fault.JournalFull size)) =
    IsRoomy call × MayBeFull terms history (reply terms.day history call).entry size
MayEnd terms history call wanted_memory = IsRoomy call

-- a call that a day takes, at a legal history, which ended as it may
pub record IsCalled (terms : DeskTerms) (c : Called) : Type 0 where
  pub legal : IsLegal terms.day c.at
  pub taken : IsCall (length terms.day.budgets) c.call
  pub may_end : MayEnd terms c.at c.call c.ended

-- What the command means that lists a campaign's days. This project's own.
use Rattle.std.specs.Prelude.{◌≡◌, ℕ, List, Option, Result}
use Rattle.adx_io.specs.Streams.{WhereTold}
use Rattle.adx_io.specs.declared.stop.Stop.{Stop}
use Rattle.command_archive.specs.Courses.{ListsUpgraded, list_text}
use Rattle.command_archive.specs.Endings.{LeavesUnanswered, outcome_by}
use Rattle.command_archive.specs.declared.list.Query.{Query}
use Rattle.command_runs.specs.Meanings.{MayPut, PutsEnd}
use Rattle.command_runs.specs.Statuses.{status_by}
use Rattle.command_runs.specs.declared.outcome.Outcome.{Outcome}
use Rattle.day_archive.specs.Answers.{HasKeeperCause, TellsDays}
use Rattle.day_archive.specs.declared.keeper.Keeper as keeper
use Rattle.day_archive.specs.declared.refusal.KeeperRefusal.{KeeperRefusal}
use Rattle.day_archive.specs.declared.row.DayRow.{DayRow}

-- what came of a query: memory was refused, so that the keeper gave no answer; or the keeper answered so
pub data Listing : Type 0 where
  unlisted : Listing
  listed : Result (List DayRow) KeeperRefusal → Listing

-- What was put: the lines of what the keeper answered, or a front of them where the sink failed; nothing where the keeper
-- gave no answer.
abbrev pub PutsListed : Listing → Option (List ℕ) → Option (List ℕ) → Result Outcome Stop → Type 0
PutsListed unlisted held held_now ended = held_now ≡ held
PutsListed (listed answer) held held_now ended = PutsEnd (outcome_by answer) held held_now (list_text answer) ended

-- The keeper answered so to a query: what it says of the days, what it kept, the count of its faults, and how the run may
-- end.
pub record LeavesAsked {P : Type 0} (k : keeper.Ghosts P) (q : Query) (old new : P) (answer : Result (List DayRow) KeeperRefusal)
    (ended : Result Outcome Stop) : Type 0 where
  pub days : TellsDays q.first q.last answer
  pub kept : WhereTold (k.contents old) (k.contents new) (ListsUpgraded q.seat q.cid q.first q.last answer)
  pub cause : HasKeeperCause (k.faults old) (k.faults new) answer
  pub ends : MayPut (outcome_by answer) ended

-- what a run leaves of its keeper, where it ends so
abbrev pub LeavesListed : {P : Type 0} → keeper.Ghosts P → Query → P → P → Listing → Result Outcome Stop → Type 0
LeavesListed k q old new unlisted ended = LeavesUnanswered k old new ended
LeavesListed k q old new (listed answer) ended = LeavesAsked k q old new answer ended

-- The command ran so, and its exit status tells how it ended.
pub record ListsAs {P : Type 0} (k : keeper.Ghosts P) (q : Query) (old new : P) (held held_now : Option (List ℕ)) (status : ℕ) : Type 0 where
  pub listing : Listing
  pub ended : Result Outcome Stop
  pub told : status ≡ status_by ended
  pub left : LeavesListed k q old new listing ended
  pub puts : PutsListed listing held held_now ended

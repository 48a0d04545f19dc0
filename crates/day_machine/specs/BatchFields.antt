-- Private, cited by a batch alone: what its fields keep.
use Rattle.std.specs.Prelude.{◌≡◌, ℕ, ◌≤◌, List, [], length, Bool, true, false, Option, Some, None}
use Rattle.day_rules.specs.declared.answer.Answer.{Answer}
use Rattle.day_rules.specs.Laws.{Arrival}
use Rattle.day_machine.specs.Batches.{AreApart}
use Rattle.day_machine.specs.declared.batch.TheConstants.{BATCH_LIMIT}

-- the answers of a batch that ran
abbrev pub answers_by : Bool → List Answer → Option (List Answer)
answers_by false answers = None
answers_by true answers = Some answers

-- There is memory for all calls and their answers, no two calls are of one award, and a batch that didn't run has no
-- answer.
pub record AreCalls (calls : List Arrival) (answers : List Answer) (ran : Bool) (call_room answer_room : ℕ) : Type 0 where
  pub few : length calls ≤ BATCH_LIMIT
  pub calls_room : BATCH_LIMIT ≤ call_room
  pub answers_room : BATCH_LIMIT ≤ answer_room
  pub apart : AreApart calls
  pub waits : ran ≡ false → answers ≡ []

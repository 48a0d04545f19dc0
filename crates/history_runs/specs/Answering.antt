-- What answering a line does to a desk and to the output. Only private clauses cite this file.
use Rattle.std.specs.Prelude.{◌≡◌, ℕ, List, [], ◌∷◌, ◌++◌}
use Rattle.adx_desk.specs.Desks.{OnDisk}
use Rattle.day_rules.specs.Replies.{Call}
use Rattle.deal_floor.specs.declared.campaign.Campaign.{Campaign}
use Rattle.deal_floor.specs.declared.roster.Roster.{Roster}
use Rattle.script_lines.specs.Meanings.{calls}
use Rattle.adx_desk.specs.Meanings.{IsLine, Told, call_answer}
use Rattle.history_runs.specs.Output.{writing}
use Rattle.history_runs.specs.Script.{Means, terms_by}
use Rattle.adx_desk.specs.Answering.{ServesCall, ServesLine}

-- a call of the desk was answered, and its line written behind what was there
pub record AnswersCall {D : Type 0} (faults : D → ℕ) (may_leave : D → List ℕ → Type 0) (moment : D → ℕ)
    (left_since : D → ℕ → List ℕ → Type 0) (campaigns : List Campaign) (old new : OnDisk D) (call : Call)
    (out_old out_new : List ℕ) : Type 0 where
  pub told : Told
  pub same : told.call ≡ call
  pub serves : ServesCall faults may_leave moment left_since old new told
  pub written : out_new ≡ out_old ++ call_answer (writing campaigns) old.desk.terms.day old.desk.history told

-- a line was answered: these bytes were written behind the old ones
pub record AnswersTo {D : Type 0} (faults : D → ℕ) (may_leave : D → List ℕ → Type 0) (moment : D → ℕ)
    (left_since : D → ℕ → List ℕ → Type 0) (r : Roster) (old new : OnDisk D) (number : ℕ) (IsKept : List ℕ → Type 0)
    (out_old out_new : List ℕ) : Type 0 where
  pub told : List Told
  pub out : List ℕ
  pub serves : ServesLine faults may_leave moment left_since old new told
  pub answered : (line : List ℕ) → IsKept line → IsLine (Means r) (writing r.campaigns) (terms_by r) number old.desk.history line told out
  pub written : out_new ≡ out_old ++ out

-- memory was refused: nothing was done; or the line's call was taken, and its answer not written
pub record LeavesUnwritten {D : Type 0} (faults : D → ℕ) (may_leave : D → List ℕ → Type 0) (moment : D → ℕ)
    (left_since : D → ℕ → List ℕ → Type 0) (r : Roster) (old new : OnDisk D) (IsKept : List ℕ → Type 0) : Type 0 where
  pub told : List Told
  pub serves : ServesLine faults may_leave moment left_since old new told
  pub means : (t : Told) → told ≡ t ∷ [] → (line : List ℕ) → IsKept line → Means r line (calls t.call)

-- Notices that are answered together. This project's own.
-- Example: bills of the awards 0 and 1 that are answered together are in format 2 the payload 3, 0, 3, 1, and in
-- format 1 one of ten bytes.
use Rattle.std.specs.Prelude.{◌≡◌, ℕ, ◌<◌, ◌≤◌, ◌==◌, List, [], ◌∷◌, ◌++◌, map, length, false, Option, Some, None}
use Rattle.std.specs.List.{IsDistinct, list_any}
use Rattle.day_rules.specs.declared.answer.Answer.{Answer}
use Rattle.day_rules.specs.declared.entry.Entry.{Entry}
use Rattle.day_rules.specs.Laws.{Arrival, after_arrival, arrival_reply}
use Rattle.day_machine.specs.declared.batch.TheConstants.{BATCH_LIMIT}
use Rattle.day_machine.specs.declared.waiting.TheConstants.{ID_LIMIT}

-- the entries that a reply adds
abbrev pub added_by : Option Entry → List Entry
added_by None = []
added_by (Some e) = e ∷ []

-- what a contract sees of a batch: its calls, and the answer of each once it ran
pub record BatchState : Type 0 where
  pub calls : List Arrival
  pub answers : Option (List Answer)

-- no two of the calls are of one award
abbrev pub AreApart : List Arrival → Type 0
AreApart calls = IsDistinct (λ (n m : ℕ). n == m) (map (λ (c : Arrival). c.award) calls)

-- A call that a batch takes: the batch didn't run and has room, none of its calls is of that award, and the auction's
-- id may be one.
pub record MayJoin (batch : BatchState) (call : Arrival) : Type 0 where
  pub waits : batch.answers ≡ None
  pub room : length batch.calls < BATCH_LIMIT
  pub new : list_any (λ (c : Arrival). call.award == c.award) batch.calls ≡ false
  pub some : 1 ≤ length call.auction
  pub short : length call.auction ≤ ID_LIMIT

-- a batch with one call more
abbrev pub joined : BatchState → Arrival → BatchState
joined batch call = record batch { calls = batch.calls ++ call ∷ [] }

-- the answers to notices, each after the history that those before it leave
abbrev pub answers_in_turn : List Entry → List Arrival → List Answer
answers_in_turn history [] = []
answers_in_turn history (x ∷ xs) = (arrival_reply history x).answer ∷ answers_in_turn (after_arrival history x) xs

-- the entries that they add
abbrev pub entries_in_turn : List Entry → List Arrival → List Entry
entries_in_turn history [] = []
entries_in_turn history (x ∷ xs) = added_by (arrival_reply history x).entry ++ entries_in_turn (after_arrival history x) xs

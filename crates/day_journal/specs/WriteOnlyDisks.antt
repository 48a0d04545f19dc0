-- What a disk in memory holds, by the writes to it. This project's own.
-- Example: behind the writes of 7 at 0 and of 8 at 2 it holds 7, 0, 8.
use Rattle.std.specs.Prelude.{ℕ, List, [], ◌∷◌}
use Rattle.day_journal.specs.Disks.{written}

-- a write: its place, and its bytes
pub record Write : Type 0 where
  pub at : ℕ
  pub piece : List ℕ

-- what is held behind writes to what was held
abbrev pub behind : List ℕ → List Write → List ℕ
behind bytes [] = bytes
behind bytes (w ∷ ws) = behind (written w.at w.piece bytes) ws

-- what was held before each of the writes
abbrev pub before_each : List ℕ → List Write → List (List ℕ)
before_each bytes [] = []
before_each bytes (w ∷ ws) = bytes ∷ before_each (written w.at w.piece bytes) ws

-- Pieces that are gathered before a sink takes them; private clauses alone cite this file.
use Rattle.std.specs.Prelude.{◌≡◌, ℕ, ◌≤◌, List, ◌++◌, take, true, false, Option}
use Rattle.adx_io.specs.Streams.{Took, Rises}
use Rattle.adx_http.specs.declared.gathered.Gathered.{Gathered}

-- Of these bytes the sink took a front since it had taken the old ones. Where it didn't fail, the rest is gathered
-- and its count stays, and else its count rose.
pub record Holds (old : Option (List ℕ)) (before : ℕ) (held : Option (List ℕ)) (faults : ℕ) (g : Gathered) (bytes : List ℕ) : Type 0 where
  pub front : List ℕ
  pub rest : List ℕ
  pub took : Took old held front
  pub split : front ++ rest ≡ bytes
  pub gathered : g.failed ≡ false → rest ≡ take g.len g.bytes
  pub same : g.failed ≡ false → faults ≡ before
  pub failed : g.failed ≡ true → Rises before faults
  pub later : before ≤ faults

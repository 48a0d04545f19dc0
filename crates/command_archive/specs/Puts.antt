-- What is left where a record's rows were put. Private clauses alone cite this file.
use Rattle.std.specs.Prelude.{◌≡◌, ℕ, List, Result}
use Rattle.adx_io.specs.Streams.{WhereTold}
use Rattle.command_archive.specs.Courses.{PutsUpgraded, put_text}
use Rattle.bid_record.specs.declared.record.Record.{Record}
use Rattle.command_archive.specs.Endings.{outcome_by}
use Rattle.command_runs.specs.declared.outcome.Outcome.{Outcome}
use Rattle.day_archive.specs.Answers.{HasKeeperCause, TellsPut}
use Rattle.day_archive.specs.declared.keeper.Keeper as keeper
use Rattle.day_archive.specs.declared.refusal.KeeperRefusal.{KeeperRefusal}
use Rattle.command_archive.specs.Rows.{rows_of}

-- the keeper answered so to the rows of a record: what it kept, the count of its faults, what was written, and how the run
-- is to end
pub record PutsRows {P : Type 0} (k : keeper.Ghosts P) (old new : P) (rec : Record) (bound : ℕ) (out : List ℕ) (outcome : Outcome) : Type 0 where
  pub answer : Result Unit KeeperRefusal
  pub day : TellsPut (rows_of rec bound) answer
  pub kept : WhereTold (k.contents old) (k.contents new) (PutsUpgraded (rows_of rec bound) answer)
  pub cause : HasKeeperCause (k.faults old) (k.faults new) answer
  pub text : out ≡ put_text (rows_of rec bound) answer
  pub ends : outcome ≡ outcome_by answer

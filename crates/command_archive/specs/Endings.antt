-- How the commands on the archive end. This project's own.
use Rattle.std.specs.Prelude.{◌≡◌, Result, Err}
use Rattle.adx_io.specs.Streams.{WhereTold}
use Rattle.adx_io.specs.declared.stop.Stop.{Stop}
use Rattle.command_archive.specs.Courses.{IsAtMostUpgraded, ending}
use Rattle.command_archive.specs.declared.filing.Filing.{Filing}
use Rattle.command_runs.specs.declared.outcome.Outcome.{Outcome}
use Rattle.day_archive.specs.declared.keeper.Keeper as keeper
use Rattle.day_archive.specs.declared.refusal.KeeperRefusal.{KeeperRefusal}

-- how a run ends whose call of the keeper ended so
abbrev pub outcome_of : Filing → Outcome
outcome_of Filing.Done = Outcome.Done
outcome_of Filing.Refused = Outcome.NotKept
outcome_of Filing.Fault = Outcome.KeeperFault

-- how a run ends by what the keeper answered
abbrev pub outcome_by : {T : Type 0} → Result T KeeperRefusal → Outcome
outcome_by answer = outcome_of (ending answer)

-- Memory was refused, so that the run ended without an answer of the keeper's: it is at most upgraded, and didn't fail.
pub record LeavesUnanswered {P : Type 0} (k : keeper.Ghosts P) (old new : P) (ended : Result Outcome Stop) : Type 0 where
  pub memory : ended ≡ Err Stop.OutOfMemory
  pub kept : WhereTold (k.contents old) (k.contents new) IsAtMostUpgraded
  pub faults : k.faults new ≡ k.faults old

-- The count of a keeper's faults by what it answered.
use Rattle.std.proofs.Common.{ℕ, Result, Ok, Err}
use Rattle.command_archive.specs.Courses.{Counts, ending}
use Rattle.day_archive.specs.Answers.{HasKeeperCause}
use Rattle.day_archive.specs.declared.refusal.KeeperRefusal.{KeeperRefusal}

pub cause_by : {T : Type 0} (before now : ℕ) (answer : Result T KeeperRefusal) → Counts before now (ending answer) → HasKeeperCause before now answer
cause_by before now (Ok x) c = c
cause_by before now (Err (KeeperRefusal.DayThere day)) c = c
cause_by before now (Err KeeperRefusal.BadRange) c = c
cause_by before now (Err (KeeperRefusal.BadDate day)) c = c
cause_by before now (Err KeeperRefusal.KeeperFault) c = c

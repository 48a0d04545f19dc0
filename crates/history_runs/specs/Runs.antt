-- How a command runs over a source, a sink and the disk of a roster's day, and how one does that prints something of its
-- history. This project's own.
use Rattle.std.specs.Prelude.{ℕ, Option, Result}
use Rattle.day_journal.specs.declared.disk.Disk as disk
use Rattle.adx_io.specs.declared.sink.Sink as sink
use Rattle.adx_io.specs.declared.source.Source as source
use Rattle.adx_io.specs.declared.stop.Stop.{Stop}
use Rattle.command_runs.specs.Documents.{document}
use Rattle.command_runs.specs.Firsts.{LeavesFirst, by_first}
use Rattle.command_runs.specs.Meanings.{Meaning}
use Rattle.command_runs.specs.Runs.{Runs}
use Rattle.command_runs.specs.Limits.{input_limit}
use Rattle.command_runs.specs.declared.outcome.Outcome.{Outcome}
use Rattle.deal_floor.specs.declared.roster.Roster.{Roster}
use Rattle.history_runs.specs.Histories.{LeavesDay, Opening, Prints, tells}
use Rattle.history_runs.specs.Rosters.{roster_heads}

-- A command ran so whose first line is a roster's, on a disk. The course is the roster, if there is one, and what came of its
-- day.
pub record RunsOn {S K D C : Type 0} (s : source.Ghosts S) (k : sink.Ghosts K) (Leaves : Roster → C → D → D → Result Outcome Stop → Type 0)
    (meaning : Roster → ℕ → C → Meaning) (old new : S) (sink_old sink_new : K) (disk_old disk_new : D)
    (result : Result Outcome Stop) : Type 0 where
  pub course : Option (Roster × C)
  -- what became of the disk,
  pub leaves : LeavesFirst (λ before now r c. Leaves r c before now) disk_old disk_new course result
  -- and of the source and the sink
  pub runs : Runs s k (by_first roster_heads input_limit meaning course) old new sink_old sink_new result

-- What a command means that prints of a history: by the roster of the first line, if there is one, and what came of its day.
abbrev pub history_command : Prints → Option (Roster × Opening) → Meaning
history_command prints = by_first roster_heads input_limit (λ r allowed o. document allowed (tells prints r o))

-- Such a command ran so.
abbrev pub RunsHistory : {S K D : Type 0} → source.Ghosts S → sink.Ghosts K → disk.Ghosts D → Prints → S → S → K → K → D → D
    → Result Outcome Stop → Type 0
RunsHistory s k d prints = RunsOn s k (LeavesDay d) (λ r allowed o. document allowed (tells prints r o))

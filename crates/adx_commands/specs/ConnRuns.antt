-- How a day of an exchange on one connection runs over a source, a sink and a disk. This project's own.
use Rattle.std.specs.Prelude.{Result}
use Rattle.day_journal.specs.declared.disk.Disk as disk
use Rattle.adx_io.specs.declared.sink.Sink as sink
use Rattle.adx_io.specs.declared.source.Source as source
use Rattle.adx_io.specs.declared.stop.Stop.{Stop}
use Rattle.command_runs.specs.declared.outcome.Outcome.{Outcome}
use Rattle.history_runs.specs.Runs.{RunsOn}
use Rattle.adx_commands.specs.Exchanges.{LeavesDay, means}

-- A day of an exchange ran so. The course is the roster of the first line, if there is one, and what came of its day.
abbrev pub ConnRuns : {S K D : Type 0} → source.Ghosts S → sink.Ghosts K → disk.Ghosts D → S → S → K → K → D → D → Result Outcome Stop
    → Type 0
ConnRuns s k d = RunsOn s k (LeavesDay d) (λ r allowed day. means r day)

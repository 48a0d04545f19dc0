-- What a run wrote, where nothing is said of its disk.
use Rattle.std.proofs.Common.{refl, ℕ, Option, Some, None, Result}
use Rattle.adx_io.specs.declared.sink.Sink as sinks
use Rattle.adx_io.specs.declared.source.Source as sources
use Rattle.adx_io.specs.declared.stop.Stop.{Stop}
use Rattle.day_journal.specs.declared.disk.Disk as disks
use Rattle.adx_commands.specs.Exchanges.{Day, LeavesDay as LeavesExchange, conn_command, was_given_up, was_served, was_unbegun}
use Rattle.command_day.specs.Days.{day_command}
use Rattle.command_runs.specs.Runs.{RunsAs}
use Rattle.command_runs.specs.declared.outcome.Outcome.{Outcome}
use Rattle.deal_floor.specs.declared.roster.Roster.{Roster}
use Rattle.adx_commands.specs.Commands.{EndsDay, EndsExchange, KeepsDay, KeepsRoster}

module _ {D : Type 0} (d : disks.Ghosts D) (old new : D) where
  ends_exchange : (course : Option (Roster × Day)) (ended : Result Outcome Stop) → KeepsRoster (LeavesExchange d) old new course ended → KeepsRoster EndsExchange tt tt course ended
  ends_exchange None ended left = (refl, left.1)
  ends_exchange (Some (r, was_unbegun)) ended left = left.1
  ends_exchange (Some (r, was_given_up why)) ended left = left.0
  ends_exchange (Some (r, was_served start lanes course)) ended left = (left.lanes_are, left.steps)

  module _ {S K : Type 0} (s : sources.Ghosts S) (k : sinks.Ghosts K) (source source_now : S) (sink sink_now : K) (status : ℕ) where
    pub day_output : RunsAs s k (KeepsDay d) day_command source source_now sink sink_now old new status → RunsAs s k EndsDay day_command source source_now sink sink_now tt tt status
    day_output runs = record { course = runs.course; ended = runs.ended; told = runs.told; left = runs.left.0; runs = runs.runs }

    pub exchange_output : RunsAs s k (KeepsRoster (LeavesExchange d)) conn_command source source_now sink sink_now old new status → RunsAs s k (KeepsRoster EndsExchange) conn_command source source_now sink sink_now tt tt status
    exchange_output runs = record { course = runs.course; ended = runs.ended; told = runs.told; left = ends_exchange runs.course runs.ended runs.left; runs = runs.runs }

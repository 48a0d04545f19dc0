-- How a reconciliation ran over a source, a sink and a disk. This project's own.
use Rattle.std.specs.Prelude.{ℕ, List, Option, Result}
use Rattle.adx_desk.specs.declared.fault.DeskFault.{DeskFault}
use Rattle.day_journal.specs.declared.disk.Disk as disk
use Rattle.adx_io.specs.declared.sink.Sink as sink
use Rattle.adx_io.specs.declared.source.Source as source
use Rattle.adx_io.specs.declared.stop.Stop.{Stop}
use Rattle.command_reconcile.specs.Reconciling.{LeavesDisk, reconciling}
use Rattle.command_runs.specs.Firsts.{by_first}
use Rattle.command_runs.specs.Meanings.{Meaning}
use Rattle.command_runs.specs.Limits.{input_limit}
use Rattle.command_runs.specs.declared.outcome.Outcome.{Outcome}
use Rattle.day_rules.specs.declared.entry.Entry.{Entry}
use Rattle.deal_floor.specs.declared.roster.Roster.{Roster}
use Rattle.history_runs.specs.Rosters.{roster_heads}
use Rattle.history_runs.specs.Runs.{RunsOn}

-- what a run depends on besides its input: the roster of the first line, if there is one, and what came of its day
abbrev pub Course : Type 0
Course = Option (Roster × Result (List Entry) DeskFault)

-- what the command means for the bidder with that name
abbrev pub reconcile_command : List ℕ → Course → Meaning
reconcile_command name = by_first roster_heads input_limit (reconciling name)

-- the command ran so
abbrev pub RunsReconciliation : {S K D : Type 0} → source.Ghosts S → sink.Ghosts K → disk.Ghosts D → List ℕ → S → S → K → K → D → D
    → Result Outcome Stop → Type 0
RunsReconciliation s k d name = RunsOn s k (LeavesDisk d) (reconciling name)

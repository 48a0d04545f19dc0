-- The course of a run whose bidder has that name.
use Rattle.std.proofs.Common.{◌≡◌, ℕ, List, Option, Some, None, Result, subst}
use Rattle.adx_desk.specs.declared.fault.DeskFault.{DeskFault}
use Rattle.day_journal.specs.declared.disk.Disk as disk
use Rattle.adx_io.specs.declared.sink.Sink as sink
use Rattle.adx_io.specs.declared.source.Source as source
use Rattle.adx_io.specs.declared.stop.Stop.{Stop}
use Rattle.command_reconcile.specs.Reconciling.{LeavesDisk, reconciling}
use Rattle.command_reconcile.specs.Runs.{RunsReconciliation, reconcile_command}
use Rattle.command_runs.specs.Firsts.{LeavesFirst, by_first}
use Rattle.command_runs.specs.Runs.{Runs}
use Rattle.command_runs.specs.Limits.{input_limit}
use Rattle.command_runs.specs.declared.outcome.Outcome.{Outcome}
use Rattle.day_rules.specs.declared.entry.Entry.{Entry}
use Rattle.deal_floor.specs.declared.roster.Roster.{Roster}
use Rattle.history_runs.specs.Rosters.{roster_heads}

-- what a run depends on, with the name that it was given
abbrev pub Named : Type 0
Named = Roster × (List ℕ × Result (List Entry) DeskFault)

module _ {S K D : Type 0} (s : source.Ghosts S) (k : sink.Ghosts K) (d : disk.Ghosts D) where
  abbrev pub leaves : List ℕ → D → D → Roster → List ℕ × Result (List Entry) DeskFault → Result Outcome Stop → Type 0
  leaves name old new r c result = (c.0 ≡ name) × LeavesDisk d r c.1 old new result

  pub ran_so : (c : Option Named) (name : List ℕ) (disk_old disk_new : D) (old new : S) (sink_old sink_new : K) (result : Result Outcome Stop)
      → LeavesFirst (leaves name) disk_old disk_new c result
      → Runs s k (by_first roster_heads input_limit (λ r allowed (p : List ℕ × Result (List Entry) DeskFault). reconciling p.0 r allowed p.1) c) old new sink_old sink_new result
      → RunsReconciliation s k d name old new sink_old sink_new disk_old disk_new result
  ran_so None name disk_old disk_new old new sink_old sink_new result left runs = record { course = None; leaves = left; runs = runs }
  ran_so (Some (r, (given, day))) name disk_old disk_new old new sink_old sink_new result left runs = record {
    course = Some (r, day);
    leaves = left.1;
    runs = subst (λ (n : List ℕ). Runs s k (reconcile_command n (Some (r, day))) old new sink_old sink_new result) left.0 runs;
  }

-- A run by its first line is that of a command over a roster's day.
use Rattle.std.proofs.Common.{◌≡◌, ℕ, ap, subst, Option, Some, None, Result}
use Rattle.day_journal.specs.declared.disk.Disk as disks
use Rattle.adx_io.specs.declared.sink.Sink as sinks
use Rattle.adx_io.specs.declared.source.Source as sources
use Rattle.adx_io.specs.declared.stop.Stop.{Stop}
use Rattle.command_runs.specs.Firsts.{LeavesFirst, by_first}
use Rattle.command_runs.specs.Limits.{input_limit}
use Rattle.command_runs.specs.Meanings.{Meaning}
use Rattle.command_runs.specs.Runs.{Runs}
use Rattle.command_runs.specs.declared.outcome.Outcome.{Outcome}
use Rattle.deal_floor.specs.declared.roster.Roster.{Roster}
use Rattle.history_runs.specs.Rosters.{roster_heads}
use Rattle.history_runs.specs.Runs.{RunsOn}

module _ {S K D E M C : Type 0} (s : sources.Ghosts S) (k : sinks.Ghosts K) (d : disks.Ghosts D) (command_of : E → M) (disk_of : E → D)
    (leaves : M → Roster → C → D → D → Result Outcome Stop → Type 0) (meaning : Roster → ℕ → C → Meaning) where
  abbrev Leaves : E → E → Roster → C → Result Outcome Stop → Type 0
  Leaves old new r c result = leaves (command_of old) r c (disk_of old) (disk_of new) result × d.lasts (disk_of old) (disk_of new)

  abbrev LeavesDisk : M → D → D → Option (Roster × C) → Result Outcome Stop → Type 0
  LeavesDisk command old new course result = LeavesFirst (λ before now r c. leaves command r c before now) old new course result

  left_so : (course : Option (Roster × C)) (before now : E) (result : Result Outcome Stop) → LeavesFirst Leaves before now course result → LeavesDisk (command_of before) (disk_of before) (disk_of now) course result
  left_so None before now result left = (ap disk_of left.0, left.1)
  left_so (Some (r, c)) before now result left = left.0

  pub runs_on : (before now : E) (command : M) (old new : S) (sink_old sink_new : K) (disk_old disk_new : D) (result : Result Outcome Stop) → command_of before ≡ command → disk_of before ≡ disk_old → disk_of now ≡ disk_new
      → (course : Option (Roster × C)) → LeavesFirst Leaves before now course result → Runs s k (by_first roster_heads input_limit meaning course) old new sink_old sink_new result
      → RunsOn s k (leaves command) meaning old new sink_old sink_new disk_old disk_new result
  runs_on before now command old new sink_old sink_new disk_old disk_new result is first last course left runs = record {
    course = course;
    leaves = subst (λ (x : D). LeavesDisk command disk_old x course result) last
        (subst (λ (x : D). LeavesDisk command x (disk_of now) course result) first
        (subst (λ (m : M). LeavesDisk m (disk_of before) (disk_of now) course result) is (left_so course before now result left)));
    runs = runs;
  }

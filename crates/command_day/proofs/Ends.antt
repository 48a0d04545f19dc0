-- What came of a day, and of its run from the first line.
use Rattle.std.proofs.Common.{Option, Some, None, Result}
use Rattle.day_journal.specs.declared.disk.Disk as disks
use Rattle.adx_io.specs.declared.sink.Sink as sinks
use Rattle.adx_io.specs.declared.source.Source as sources
use Rattle.adx_io.specs.declared.stop.Stop.{Stop}
use Rattle.command_runs.specs.Firsts.{LeavesFirst, by_first}
use Rattle.command_runs.specs.Runs.{Runs}
use Rattle.command_runs.specs.Limits.{input_limit}
use Rattle.command_runs.specs.declared.outcome.Outcome.{Outcome}
use Rattle.deal_floor.specs.declared.roster.Roster.{Roster}
use Rattle.adx_desk.specs.OnDisk.{CourseOn}
use Rattle.history_runs.specs.Rosters.{roster_heads}
use Rattle.history_runs.specs.Runs.{RunsOn}
use Rattle.command_day.specs.Days.{EndsAs, day_command}
use Rattle.command_day.specs.Runs.{DayRuns}
use Rattle.command_day.specs.Steps.{Day, LeavesDay, course_by, day_after, was_given_up, was_served}
use Rattle.command_day.proofs.OneOutput.{took_told}

-- a run over a roster's day is a day's
module _ {S K D : Type 0} (s : sources.Ghosts S) (k : sinks.Ghosts K) (d : disks.Ghosts D) where
  left_so : (c : Option (Roster × Day)) (old new : D) (result : Result Outcome Stop) → LeavesFirst (λ before now r day. LeavesDay d r day before now) old new c result
      → EndsAs (course_by c) result × CourseOn d.faults d.reads d.may_leave d.moment d.left_since (course_by c) old new
  left_so None old new result left = (left.1, left.0)
  left_so (Some (r, was_given_up why)) old new result left = left
  left_so (Some (r, was_served start told unwritten)) old new result left = left

  means_so : (c : Option (Roster × Day)) (old new : S) (sink_old sink_new : K) (result : Result Outcome Stop) → Runs s k (by_first roster_heads input_limit day_after c) old new sink_old sink_new result → Runs s k (day_command (course_by c)) old new sink_old sink_new result
  means_so None old new sink_old sink_new result runs = runs
  means_so (Some (r, was_given_up why)) old new sink_old sink_new result runs = runs
  means_so (Some (r, was_served start told unwritten)) old new sink_old sink_new result runs = runs

  pub day_runs : (old new : S) (sink_old sink_new : K) (disk_old disk_new : D) (result : Result Outcome Stop) → RunsOn s k (LeavesDay d) day_after old new sink_old sink_new disk_old disk_new result
      → DayRuns s k d old new sink_old sink_new disk_old disk_new result
  day_runs old new sink_old sink_new disk_old disk_new result ran =
      let left = left_so ran.course disk_old disk_new result ran.leaves in
      let means = means_so ran.course old new sink_old sink_new result ran.runs in record {
        course = course_by ran.course;
        ends = left.0;
        on_disk = left.1;
        runs = means;
        of_whole = took_told (course_by ran.course) (s.tape old) (s.tape new) (k.held sink_old) (k.held sink_new) result means.wrote;
      }

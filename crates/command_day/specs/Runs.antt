-- How a day of script lines is served over a source, a sink and a disk. This project's own.
use Rattle.std.specs.Prelude.{Result}
use Rattle.adx_io.specs.Streams.{WhereTold}
use Rattle.day_journal.specs.declared.disk.Disk as disk
use Rattle.adx_io.specs.declared.sink.Sink as sink
use Rattle.adx_io.specs.declared.source.Source as source
use Rattle.adx_io.specs.declared.stop.Stop.{Stop}
use Rattle.command_runs.specs.Runs.{Runs}
use Rattle.command_runs.specs.declared.outcome.Outcome.{Outcome}
use Rattle.adx_desk.specs.Courses.{Course, GoesOn}
use Rattle.adx_desk.specs.OnDisk.{CourseOn}
use Rattle.command_day.specs.Days.{EndsAs, TookOfWhole, day_command}

-- A day ran so over a source, a sink and a disk.
pub record DayRuns {S K D : Type 0} (s : source.Ghosts S) (k : sink.Ghosts K) (d : disk.Ghosts D) (old new : S)
    (sink_old sink_new : K) (disk_old disk_new : D) (result : Result Outcome Stop) : Type 0 where
  pub course : Course
  -- how it ended by how the day went, and what became of the disk
  pub ends : EndsAs course result
  pub on_disk : CourseOn d.faults d.reads d.may_leave d.moment d.left_since course disk_old disk_new
  -- what was read and written, and the causes of the end
  pub runs : Runs s k (day_command course) old new sink_old sink_new result
  -- whatever the sink took is a prefix of each whole output of a day that goes on from there
  pub of_whole : WhereTold (s.tape old) (s.tape new) (λ before now.
      (more : Course) → GoesOn course more → TookOfWhole (day_command more) before.left (k.held sink_old) (k.held sink_new))

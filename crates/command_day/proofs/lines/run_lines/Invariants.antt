-- The lines so far were read and answered, and their answers are in the sink.
use Rattle.std.proofs.Common.{◌≡◌, List, []}
use Rattle.adx_desk.specs.Rosters.{desk_terms}
use Rattle.adx_io.specs.TalkState.{place_of, state_of}
use Rattle.day_rules.specs.declared.entry.Entry.{Entry}
use Rattle.adx_desk.specs.Answering.{DeskRuns}
use Rattle.command_day.proofs.DayLines.{Running}
use Rattle.command_day.proofs.lines.run_lines.Given as goal

abbrev pub invariant-lines : goal.invariant-lines
invariant-lines g l = record {
  running : (disk : g.row.D.Denot) (start : List Entry) → DeskRuns g.D.Disk.faults g.D.Disk.reads g.D.Disk.may_leave g.D.Disk.moment g.D.Disk.left_since (desk_terms l.fn.roster) disk start [] l.fn.desk
      → Running g.D.Disk l.fn.roster start disk (state_of l.fn.talk) (state_of l.talk) l.number l.desk;
  unwritten : (state_of l.talk).out ≡ [];
  terms : l.desk.desk.terms ≡ desk_terms l.fn.roster;
  lasts : g.D.Disk.lasts l.fn.desk.disk l.desk.disk;
  read_same : (state_of l.talk).read_faults ≡ (state_of l.fn.talk).read_faults;
  write_same : (state_of l.talk).write_faults ≡ (state_of l.fn.talk).write_faults;
  place : place_of l.talk ≡ place_of l.fn.talk;
}

abbrev pub decreases-lines : goal.decreases-lines
decreases-lines g l = (state_of l.talk).allowed

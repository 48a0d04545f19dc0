-- What a day of an exchange on one connection means, by what came of it beside its input: the history that its journal represented,
-- the lanes to its bidders, and the steps that its messages made. This project's own.
use Rattle.std.specs.Prelude.{◌≡◌, ℕ, List, Option, Some, Result, Ok, Err}
use Rattle.adx_desk.specs.Rosters.{desk_terms}
use Rattle.adx_desk.specs.declared.fault.DeskFault.{DeskFault}
use Rattle.adx_io.specs.Streams.{Rises}
use Rattle.day_journal.specs.declared.disk.Disk as disk
use Rattle.adx_io.specs.declared.stop.Stop.{Stop}
use Rattle.command_runs.specs.Firsts.{by_first}
use Rattle.command_runs.specs.Meanings.{Meaning}
use Rattle.command_runs.specs.Limits.{input_limit}
use Rattle.command_runs.specs.declared.outcome.Outcome.{Outcome}
use Rattle.http_service.specs.ConnectionRuns.{BreaksTogether, connection_by, most_beyond}
use Rattle.day_rules.specs.declared.entry.Entry.{Entry}
use Rattle.deal_floor.specs.declared.roster.Roster.{Roster}
use Rattle.adx_desk.specs.Steps.{AreSteps, alone}
use Rattle.adx_desk.specs.Courses.{HasNoDiskFault, given_up}
use Rattle.adx_desk.specs.Meanings.{Told}
use Rattle.adx_desk.specs.OnDisk.{CourseOn, history_after}
use Rattle.adx_desk.specs.Told.{told_of}
use Rattle.exchange_messages.specs.Floors.{IsMomentOf}
use Rattle.exchange_messages.specs.Courses.{AnswersOn, Course, GivesUpOn, begun}
use Rattle.fan_out.specs.Lanes.{Outcome as LaneOutcome}
use Rattle.fan_out.specs.declared.lane.Lane.{Lane}
use Rattle.history_runs.specs.Rosters.{roster_heads}
use Rattle.history_runs.specs.Unopened.{GivesUpBy, not_opened}
use Rattle.http_service.specs.declared.limits.TheConstants.{REQUEST_LIMIT}
use Rattle.day_machine.specs.declared.batch.TheConstants.{BATCH_LIMIT}
use Rattle.adx_commands.specs.RosterLinks.{AreRosterLanes, WorksByTexts}
use Rattle.adx_commands.specs.declared.link.RosterLink.{RosterLink}
use Rattle.adx_commands.specs.ConnDisks.{ServesTogether}

-- What came of a roster's day: memory was refused before it was opened; opening it gave up for a cause; or it was served from
-- a history, with lanes to its bidders, and its messages went on so.
pub data Day : Type 0 where
  was_unbegun : Day
  was_given_up : DeskFault → Day
  was_served : List Entry → List (Lane RosterLink) → Course RosterLink → Day

-- How a run ends that was read to the end of its connection, by its calls: done, where the disk's fault gave up none of them;
-- or by a fault of the disk, be it in a call or in a record of notices that waited together, which are then taken one by one.
abbrev pub EndsBy : List Told → Outcome → Type 0
EndsBy told Outcome.Done = HasNoDiskFault told
EndsBy told Outcome.DiskFault = Unit {0}
EndsBy told other = ⊥

-- What the connection of a roster's day means, over lanes that work so. The roster's moment is that of every message. Where
-- the sink failed within the replies, it took all of them but those to the last messages, which wait together: one record of
-- the journal, of up to 32 notices, or fewer messages.
-- Example: a head that is refused after 1,000 notices: the sink took the replies to all 1,000 before it fails
-- within the refusal's.
abbrev pub serving : {L : Type 0} → (List ℕ → List ℕ → Lane L → Lane L → LaneOutcome → Type 0) → Roster → List (Lane L) → Course L → Meaning
serving Works r lanes course =
    connection_by (AnswersOn Works (IsMomentOf (Some r.now)) r) (GivesUpOn Works (IsMomentOf (Some r.now)) r) REQUEST_LIMIT most_beyond
    (begun lanes) course (EndsBy (told_of course.steps))
    (BreaksTogether (AnswersOn Works (IsMomentOf (Some r.now)) r) (GivesUpOn Works (IsMomentOf (Some r.now)) r) REQUEST_LIMIT
    most_beyond (begun lanes) course BATCH_LIMIT)

-- what the command means after its roster's line: its bidders answer by the texts of the roster
abbrev pub means : Roster → Day → Meaning
means r was_unbegun = not_opened DeskFault.OutOfMemory
means r (was_given_up why) = not_opened why
means r (was_served start lanes course) = serving WorksByTexts r lanes course

-- what the command means, by the roster of the first line, if there is one, and what came of its day
abbrev pub conn_command : Option (Roster × Day) → Meaning
conn_command = by_first roster_heads input_limit (λ r allowed day. means r day)

-- How a run ends whose day was served, by its calls and the disk's count: done, where the disk's fault gave up no call and
-- the count stayed; by the disk, where the count rose; or stopped.
-- Example: a bill that the disk's fault gave up and a connection that closed give the status 6.
abbrev pub EndsServed : List Told → ℕ → ℕ → Result Outcome Stop → Type 0
EndsServed told before now (Ok Outcome.Done) = HasNoDiskFault told × (now ≡ before)
EndsServed told before now (Ok Outcome.DiskFault) = Rises before now
EndsServed told before now (Ok other) = ⊥
EndsServed told before now (Err stop) = Unit {0}

module _ {D : Type 0} (d : disk.Ghosts D) where
  -- A roster's day was opened on a disk with this history, and a connection was served on it that went on so.
  pub record Served (r : Roster) (start : List Entry) (lanes : List (Lane RosterLink)) (course : Course RosterLink) (old new : D)
      (result : Result Outcome Stop) : Type 0 where
    -- the bidders answer by the roster's texts, from the first on
    pub lanes_are : AreRosterLanes r lanes
    -- the steps of the messages, each at the history that those before it leave, and what the disk keeps of their calls
    pub steps : AreSteps alone (desk_terms r) start course.steps (history_after (desk_terms r).day start (told_of course.steps))
    pub on_disk : ServesTogether d.faults d.reads d.may_leave d.moment d.left_since (desk_terms r) start (told_of course.steps) old new
    pub ends : EndsServed (told_of course.steps) (d.faults old) (d.faults new) result

  -- how the run ended by what came of the day, and what became of the disk; memory that was refused before left it as it was
  abbrev pub LeavesDay : Roster → Day → D → D → Result Outcome Stop → Type 0
  LeavesDay r was_unbegun old new result = (new ≡ old) × (result ≡ Err Stop.OutOfMemory)
  LeavesDay r (was_given_up why) old new result =
      GivesUpBy why result × CourseOn d.faults d.reads d.may_leave d.moment d.left_since (given_up r why) old new
  LeavesDay r (was_served start lanes course) old new result = Served r start lanes course old new result

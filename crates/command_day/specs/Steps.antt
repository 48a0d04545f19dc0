-- What the steps of a day's run do. Only private clauses cite this file.
use Rattle.std.specs.Prelude.{◌≡◌, ◌≢◌, ◌⊎◌, ℕ, List, [], Option, Some, None, Result, Ok, Err}
use Rattle.adx_desk.specs.Desks.{DeskState, OnDisk}
use Rattle.adx_desk.specs.Rosters.{desk_terms}
use Rattle.adx_desk.specs.declared.fault.DeskFault.{DeskFault}
use Rattle.adx_io.specs.Streams.{Tape, Took, WhereTold}
use Rattle.adx_io.specs.Talk.{TalkState}
use Rattle.adx_io.specs.TalkState.{state_of}
use Rattle.day_journal.specs.declared.disk.Disk as disk
use Rattle.adx_io.specs.declared.sink.Sink as sink
use Rattle.adx_io.specs.declared.source.Source as source
use Rattle.adx_io.specs.declared.stop.Stop.{Stop}
use Rattle.adx_io.specs.declared.talk.Talk.{Talk}
use Rattle.command_runs.specs.Meanings.{Meaning, PutsEnd, TookPrefix, Wrote}
use Rattle.command_runs.specs.declared.outcome.Outcome.{Outcome}
use Rattle.day_rules.specs.declared.entry.Entry.{Entry}
use Rattle.deal_floor.specs.declared.roster.Roster.{Roster}
use Rattle.adx_desk.specs.Answering.{DeskRuns}
use Rattle.adx_desk.specs.Courses.{Course, given_up, served, taken_calls, unopened}
use Rattle.adx_desk.specs.Meanings.{Told}
use Rattle.adx_desk.specs.OnDisk.{CourseOn, ServesRun}
use Rattle.history_runs.specs.Clauses.{LineAnswered, LineLeft}
use Rattle.history_runs.specs.Script.{closing}
use Rattle.history_runs.specs.Unopened.{not_opened}
use Rattle.command_day.specs.Days.{EndsAs, EndsServed, lines}

-- a line of which this is known was answered on a desk, and its answer put, or a prefix of it; or memory was refused, and
-- nothing was put
abbrev pub PutsLine : {D : Type 0} → disk.Ghosts D → Roster → OnDisk D → OnDisk D → ℕ → (List ℕ → Type 0)
    → (held held_now : Option (List ℕ)) → Result (Unit {0}) Stop → Type 0
PutsLine d r old new number Known held held_now (Ok done) = (out : List ℕ) × LineAnswered d r old new number Known [] out × Took held held_now out
PutsLine d r old new number Known held held_now (Err Stop.ReadFault) = ⊥
PutsLine d r old new number Known held held_now (Err Stop.WriteFault) =
    (out : List ℕ) × LineAnswered d r old new number Known [] out × TookPrefix held held_now out
PutsLine d r old new number Known held held_now (Err Stop.OutOfMemory) = LineLeft d r old new Known × (held_now ≡ held)

-- how a day ends whose script was read to its end, on a desk that counted so many faults of its disk
abbrev pub IsEndOf : ℕ → Outcome → Type 0
IsEndOf faults outcome = (faults ≡ 0 → outcome ≡ Outcome.Done) × (faults ≢ 0 → outcome ≡ Outcome.DiskFault)

-- what closes a script was put, or a prefix of it; or memory was refused, and nothing was
abbrev pub PutsClosing : Roster → DeskState → ℕ → (List ℕ → Type 0) → (held held_now : Option (List ℕ)) → Result Outcome Stop → Type 0
PutsClosing r desk number Known held held_now result =
    ((outcome : Outcome) × (out : List ℕ) × IsEndOf desk.faults outcome
    × ((piece : List ℕ) → Known piece → out ≡ closing r number piece desk.history) × PutsEnd outcome held held_now out result)
    ⊎ ((result ≡ Err Stop.OutOfMemory) × (held_now ≡ held))

-- what came of a roster's day: opening it gave up; or it was served from a history, with these calls, and one more whose
-- answer wasn't written, if there is one
pub data Day : Type 0 where
  was_given_up : DeskFault → Day
  was_served : List Entry → List Told → Option Told → Day

-- how the day of a roster went
abbrev pub course_of : Roster → Day → Course
course_of r (was_given_up why) = given_up r why
course_of r (was_served start told unwritten) = served r start told unwritten

-- the same of a first line
abbrev pub course_by : Option (Roster × Day) → Course
course_by None = unopened
course_by (Some (r, day)) = course_of r day

-- what the command means after the roster's line; so many bytes may be read
abbrev pub day_after : Roster → ℕ → Day → Meaning
day_after r allowed (was_given_up why) = not_opened why
day_after r allowed (was_served start told unwritten) = lines r start told unwritten allowed

-- how the run ended, and what became of the disk
abbrev pub LeavesDay : {D : Type 0} → disk.Ghosts D → Roster → Day → D → D → Result Outcome Stop → Type 0
LeavesDay d r day old new result =
    EndsAs (course_of r day) result × CourseOn d.faults d.reads d.may_leave d.moment d.left_since (course_of r day) old new

-- the lines of a script were answered on a day that began with this history
pub record LinesRan {D : Type 0} (d : disk.Ghosts D) (r : Roster) (start : List Entry) (before : TalkState) (tape : Option Tape)
    (held_now : Option (List ℕ)) (old new : D) (result : Result Outcome Stop) : Type 0 where
  pub told : List Told
  pub unwritten : Option Told
  pub ends : EndsServed told unwritten result
  pub on_disk : ServesRun d.faults d.reads d.may_leave d.moment d.left_since (desk_terms r) start (taken_calls told unwritten) old new
  pub wrote : WhereTold before.tape tape (λ x y. Wrote (lines r start told unwritten before.allowed) x.left y.left before.held held_now result)

-- the same on the desk of a day that begins
abbrev pub ScriptRan : {S K D : Type 0} {s : source.Ghosts S} {k : sink.Ghosts K} → disk.Ghosts D → Roster → OnDisk D → D
    → (old new : Talk S K s k) → Result Outcome Stop → Type 0
ScriptRan {D = D} {s = s} {k = k} d r desk disk_now old new result =
    (disk : D) (start : List Entry) → DeskRuns d.faults d.reads d.may_leave d.moment d.left_since (desk_terms r) disk start [] desk
    → LinesRan d r start (state_of old) (s.tape new.source.now) (k.held new.sink.now) disk disk_now result

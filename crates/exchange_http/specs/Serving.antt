-- How an exchange serves a connection. This project's own.
use Rattle.std.specs.Prelude.{◌≡◌, ◌⊎◌, ◌≤◌, ℕ, List, ◌++◌, length, Option}
use Rattle.adx_io.specs.Streams.{Tape}
use Rattle.day_journal.specs.declared.disk.Disk.{Ghosts as DiskGhosts}
use Rattle.adx_links.specs.declared.link.Link.{Ghosts as LinkGhosts}
use Rattle.adx_desk.specs.Desks.{OnDisk}
use Rattle.adx_desk.specs.Steps.{AreSteps, Step, alone, turns_of}
use Rattle.adx_desk.specs.declared.day_desk.DayDesk.{Ghosts as DeskGhosts}
use Rattle.day_machine.specs.declared.batch.TheConstants.{BATCH_LIMIT}
use Rattle.deal_floor.specs.declared.roster.Roster.{Roster}
use Rattle.fan_out.specs.declared.lane.Lane.{Lane}
use Rattle.http_connection.specs.Messages.{Request}
use Rattle.http_connection.specs.declared.conn.ConnEnd.{ConnEnd}
use Rattle.http_grammar.specs.declared.fault.HttpFault.{HttpFault}
use Rattle.http_service.specs.Connections.{Answering, GivingUp, AreSpent, Brings, CloseLast, FailsRefusing, GoOn, Replies, TookWithFront, EndsWith as EndsService}
use Rattle.http_service.specs.declared.limits.TheConstants.{REQUEST_LIMIT}
use Rattle.day_rules.specs.RunBooks.{HasBooks}
use Rattle.adx_desk.specs.Told.{told_of}
use Rattle.exchange_messages.specs.Floors.{IsMomentOf}
use Rattle.fan_out.specs.Lanes.{works}
use Rattle.exchange_messages.specs.declared.clock.Clock.{Ghosts as ClockGhosts}
use Rattle.exchange_messages.specs.declared.floor.Floor.{Floor}
use Rattle.exchange_messages.specs.Courses.{AnswersOn, Course, GivesUpOn, begun}
use Rattle.adx_desk.specs.Records.{RunsOn}

-- nothing is said of the rest
abbrev pub IsAny : List ℕ → Type 0
IsAny rest = Unit {0}

-- The sink failed within the replies. It took those to some messages, and a front of those to at most so many more as wait
-- together, whose calls were taken.
pub record FailsWaiting {S : Type 0} (answers : Answering S) (limit : ℕ) (tape tape_now : Option Tape)
    (held held_now : Option (List ℕ)) (s now : S) : Type 0 where
  pub before : List Request
  pub waiting : List Request
  pub between : S
  pub out : List ℕ
  pub due : List ℕ
  pub few : length waiting ≤ BATCH_LIMIT
  pub may_come : GoOn (before ++ waiting) ⊎ (CloseLast (before ++ waiting) ⊎ AreSpent (before ++ waiting))
  pub replied : Replies answers s before out between
  pub to_reply : Replies answers between waiting due now
  pub took : TookWithFront held held_now out due
  pub brings : Brings limit tape tape_now (before ++ waiting) IsAny

-- How a connection ended, whose replies may wait together. Where the sink failed within the reply to a message that is
-- refused, it took those to all messages before it.
abbrev pub EndsWith : {S : Type 0} → Answering S → GivingUp S → ℕ → Option Tape → Option Tape → Option (List ℕ)
    → Option (List ℕ) → S → S → ConnEnd → Type 0
EndsWith answers gives_up limit tape tape_now held held_now s now ConnEnd.Closed =
    EndsService answers gives_up limit tape tape_now held held_now s now ConnEnd.Closed
EndsWith answers gives_up limit tape tape_now held held_now s now ConnEnd.Cut =
    EndsService answers gives_up limit tape tape_now held held_now s now ConnEnd.Cut
EndsWith answers gives_up limit tape tape_now held held_now s now (ConnEnd.Refused fault) =
    EndsService answers gives_up limit tape tape_now held held_now s now (ConnEnd.Refused fault)
EndsWith answers gives_up limit tape tape_now held held_now s now ConnEnd.ReadFault =
    EndsService answers gives_up limit tape tape_now held held_now s now ConnEnd.ReadFault
EndsWith answers gives_up limit tape tape_now held held_now s now ConnEnd.WriteFault =
    FailsWaiting answers limit tape tape_now held held_now s now
    ⊎ ((fault : HttpFault) × FailsRefusing answers limit tape tape_now held held_now s now fault)
EndsWith answers gives_up limit tape tape_now held held_now s now ConnEnd.Spent =
    EndsService answers gives_up limit tape tape_now held held_now s now ConnEnd.Spent
EndsWith answers gives_up limit tape tape_now held held_now s now ConnEnd.OutOfMemory =
    EndsService answers gives_up limit tape tape_now held held_now s now ConnEnd.OutOfMemory

-- what a connection brings and takes: the bytes of its source, and those that its sink took, where they report them
pub record Talked : Type 0 where
  pub tape : Option Tape
  pub held : Option (List ℕ)

-- such a pair
abbrev pub talked : Option Tape → Option (List ℕ) → Talked
talked tape held = record { tape = tape; held = held }

-- which messages came, what each was replied by its own steps, and why no more were read
abbrev pub EndsSo : {L : Type 0} → LinkGhosts L → (ℕ → Type 0) → Roster → Talked → Talked → List (Lane L) → Course L → ConnEnd → Type 0
EndsSo l IsMoment r before now lanes course end =
    EndsWith (AnswersOn (works l) IsMoment r) (GivesUpOn (works l) IsMoment r) REQUEST_LIMIT
    before.tape now.tape before.held now.held (begun lanes) course end

-- A connection was served on a floor, over any desk that one calls, and ended so.
pub record ServesFloor {Y L C G : Type 0} (y : DeskGhosts Y) (l : LinkGhosts L) (c : ClockGhosts C) (old new : Floor Y L C G)
    (before now : Talked) (end : ConnEnd) : Type 0 where
  pub steps : List Step
  -- the desk says this of its steps,
  pub ran : y.runs old.desk new.desk steps
  -- and by them the messages were replied
  pub ends : EndsSo l (IsMomentOf (c.moment old.clock.now)) old.roster.now before now old.lanes.now.items
      (record { steps = steps; lanes = new.lanes.now.items }) end

-- A connection was served on a desk that nobody else calls, over a source, a sink and lanes, and ended so.
pub record ServesConnection {D L : Type 0} (d : DiskGhosts D) (l : LinkGhosts L) (IsMoment : ℕ → Type 0) (r : Roster)
    (before now : Talked) (lanes lanes_now : List (Lane L)) (old new : OnDisk D) (end : ConnEnd) : Type 0 where
  pub course : Course L
  pub lanes_are : course.lanes ≡ lanes_now
  -- each step is at the history that those before it leave,
  pub steps : AreSteps alone old.desk.terms old.desk.history course.steps new.desk.history
  -- the disk keeps their calls as a run, and their books are those of the headline
  pub on_disk : RunsOn d.faults d.may_leave d.moment d.left_since old new (told_of course.steps)
  pub books : HasBooks old.desk.terms.day old.desk.history (turns_of course.steps) new.desk.history
  -- which messages came, what they were replied, and why no more were read
  pub ends : EndsSo l IsMoment r before now lanes course end

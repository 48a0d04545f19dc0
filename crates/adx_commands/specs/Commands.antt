-- What comes of a command, and what words that aren't one write. How words ask for a command is in `command_words`.
-- This project's own.
-- Example: the words `day`, `--journal`, `a` serve a day in plain spelling; `day`, `--journal=a` aren't in plain
-- spelling, and do what `clap` reads of them.
use Rattle.std.specs.Prelude.{◌≡◌, ◌⊎◌, ℕ, ◌-◌, ◌^◌, List, codes, true, false, Option, Some, None, Result, Err}
use Rattle.adx_io.specs.Streams.{Took}
use Rattle.day_journal.specs.declared.disk.Disk as disks
use Rattle.adx_io.specs.declared.stop.Stop.{Stop}
use Rattle.adx_io.specs.declared.sink.Sink as sinks
use Rattle.adx_io.specs.declared.source.Source as sources
use Rattle.bidder_core.specs.Seen.{BidderState}
use Rattle.command_bidder.specs.Bidders.{MayEnd, bidder_command}
use Rattle.command_archive.specs.Keeps.{KeepsAs}
use Rattle.command_archive.specs.Lists.{ListsAs}
use Rattle.command_archive.specs.declared.list.Query.{Query}
use Rattle.command_check.specs.Runs.{ChecksInput}
use Rattle.command_close.specs.ClosedDays.{IsClosedDay}
use Rattle.command_close.specs.Guarantees.{IsGuarantee}
use Rattle.adx_commands.specs.Exchanges.{Day, LeavesDay as LeavesExchange, conn_command, was_given_up, was_served, was_unbegun}
use Rattle.adx_commands.specs.RosterLinks.{AreRosterLanes}
use Rattle.adx_desk.specs.Steps.{AreSteps, alone}
use Rattle.adx_desk.specs.Told.{told_of}
use Rattle.adx_desk.specs.Rosters.{desk_terms}
use Rattle.history_runs.specs.Unopened.{GivesUpBy}
use Rattle.command_day.specs.Days.{EndsAs, day_command}
use Rattle.command_gen.specs.GeneratedEnds.{GeneratedRuns}
use Rattle.command_notices.specs.PostLines.{AreNotices}
use Rattle.command_reconcile.specs.Reconciling.{LeavesDisk as LeavesLedgerDay}
use Rattle.command_reconcile.specs.Runs.{reconcile_command}
use Rattle.command_runs.specs.Firsts.{LeavesFirst}
use Rattle.command_runs.specs.Runs.{RunsAs}
use Rattle.command_runs.specs.Statuses.{status_by}
use Rattle.command_runs.specs.declared.outcome.Outcome.{Outcome}
use Rattle.command_words.specs.Helps.{help_text, version_text}
use Rattle.command_words.specs.Meanings.{IsPlain, IsRowOf, archive_name, asks_name, bidder_name, cid_name, from_name, journal_name, number_of, ratio_name, seat_name, seed_name, to_name}
use Rattle.command_words.specs.Spelling.{Given, Row, Spells, SpellsWith, value_of}
use Rattle.command_words.specs.Taken.{IsReadingOf}
use Rattle.command_words.specs.declared.command.Command.{Command}
use Rattle.command_words.specs.declared.command.TheConstants.{MOST_ASKS}
use Rattle.command_words.specs.declared.command.Topic.{Topic}
use Rattle.day_archive.specs.declared.keeper.Keeper as keepers
use Rattle.deal_floor.specs.declared.roster.Roster.{Roster}
use Rattle.adx_desk.specs.Courses.{Course}
use Rattle.adx_desk.specs.OnDisk.{CourseOn, history_after}
use Rattle.history_runs.specs.Histories.{LeavesDay}
use Rattle.history_runs.specs.Runs.{history_command}
use Rattle.command_runs.specs.Meanings.{TookPrefix}

-- the words are the command of this word with these options in plain spelling
abbrev pub IsCalled : List ℕ → List Given → List (List ℕ) → Type 0
IsCalled word given words = (row : Row) × Spells row given words × IsRowOf word row

-- the words serve a day: with no journal, or with one in a file
abbrev pub IsDay : List (List ℕ) → Type 0
IsDay words = (given : List Given) × IsCalled (codes "day") given words

-- the words serve a day on a connection: with no journal, or with one in a file
abbrev pub IsConnection : List (List ℕ) → Type 0
IsConnection words = (given : List Given) × IsCalled (codes "conn") given words

-- the words serve a bidder's connection
abbrev pub IsBidder : List (List ℕ) → Type 0
IsBidder words = (given : List Given) × IsCalled (codes "bidder") given words

-- the words generate a day of so many asks by this seed
abbrev pub IsGenerated : List (List ℕ) → ℕ → ℕ → Type 0
IsGenerated words seed asks =
    (given : List Given) × IsCalled (codes "gen") given words
    × (number_of (2 ^ 64 - 1) (value_of seed_name given) ≡ Some seed) × (number_of MOST_ASKS (value_of asks_name given) ≡ Some asks)

-- the words are this command on the journal in a file
abbrev pub IsOnJournal : List ℕ → List (List ℕ) → Type 0
IsOnJournal word words =
    (journal : List ℕ) × (given : List Given) × IsCalled word given words × (value_of journal_name given ≡ Some journal)

-- the words print the notices of the day that a journal in a file keeps
abbrev pub IsNotices : List (List ℕ) → Type 0
IsNotices words = IsOnJournal (codes "notices") words

-- the words print the document of the day that a journal in a file keeps
abbrev pub IsClose : List (List ℕ) → Type 0
IsClose words = IsOnJournal (codes "close") words

-- the words print the line of its revenue guarantee
abbrev pub IsRatio : List (List ℕ) → Type 0
IsRatio words =
    (journal : List ℕ) × (row : Row) × (given : List Given) × SpellsWith row ratio_name given words × IsRowOf (codes "close") row
    × (value_of journal_name given ≡ Some journal)

-- the words check a closed day
abbrev pub IsCheck : List (List ℕ) → Type 0
IsCheck words = (given : List Given) × IsCalled (codes "check") given words

-- the words keep a closed day in the archive of this file
abbrev pub IsArchivePut : List (List ℕ) → Type 0
IsArchivePut words =
    (archive : List ℕ) × (given : List Given) × IsCalled (codes "archive-put") given words × (value_of archive_name given ≡ Some archive)

-- the words list the kept days that are asked for, in the archive of this file
abbrev pub IsArchiveList : List (List ℕ) → Query → Type 0
IsArchiveList words q =
    (archive : List ℕ) × (given : List Given) × IsCalled (codes "archive-list") given words × (value_of archive_name given ≡ Some archive)
    × (value_of seat_name given ≡ Some q.seat) × (value_of cid_name given ≡ Some q.cid)
    × (value_of from_name given ≡ Some q.first) × (value_of to_name given ≡ Some q.last)

-- the words are one of these
abbrev pub IsArchive : List (List ℕ) → Type 0
IsArchive words = IsArchivePut words ⊎ ((q : Query) × IsArchiveList words q)

-- the words compare the bills of the day that a journal in a file keeps with the ledger of the bidder of this name
abbrev pub IsReconcile : List (List ℕ) → List ℕ → Type 0
IsReconcile words name =
    (journal : List ℕ) × (given : List Given) × IsCalled (codes "reconcile") given words × (value_of journal_name given ≡ Some journal)
    × (value_of bidder_name given ≡ Some name)

-- the words ask for help on this, and for the version
abbrev pub IsHelp : List (List ℕ) → Topic → Type 0
IsHelp words topic = IsPlain (Command.Help topic) words

-- the words ask for the version
abbrev pub IsVersion : List (List ℕ) → Type 0
IsVersion words = IsPlain Command.Version words

-- the words ask for something in plain spelling
abbrev pub IsCommand : List (List ℕ) → Type 0
IsCommand words = (command : Command) × IsPlain command words

-- How a day ended by how it went, and what became of its disk.
abbrev pub KeepsDay : {D : Type 0} → disks.Ghosts D → D → D → Course → Result Outcome Stop → Type 0
KeepsDay d old new course ended = EndsAs course ended × CourseOn d.faults d.reads d.may_leave d.moment d.left_since course old new

-- The same where nothing is said of a disk.
abbrev pub EndsDay : Unit {0} → Unit {0} → Course → Result Outcome Stop → Type 0
EndsDay nothing still course ended = EndsAs course ended

-- What became of the disk of the roster that the first line reported, by what came of its day, where a line reported one.
abbrev pub KeepsRoster : {D Day : Type 0} → (Roster → Day → D → D → Result Outcome Stop → Type 0) → D → D → Option (Roster × Day)
    → Result Outcome Stop → Type 0
KeepsRoster leaves = LeavesFirst (λ old new r day. leaves r day old new)

-- How the run on a connection ended by what came of its day, where nothing is said of a disk: the bidders answer by the roster's
-- texts, and each message's steps are made at the history that those before it leave.
abbrev pub EndsExchange : Roster → Day → Unit {0} → Unit {0} → Result Outcome Stop → Type 0
EndsExchange r was_unbegun nothing still ended = ended ≡ Err Stop.OutOfMemory
EndsExchange r (was_given_up why) nothing still ended = GivesUpBy why ended
EndsExchange r (was_served start lanes course) nothing still ended =
    AreRosterLanes r lanes × AreSteps alone (desk_terms r) start course.steps (history_after (desk_terms r).day start (told_of course.steps))

-- How a bidder's run ended. It has no disk.
abbrev pub EndsBidder : Unit {0} → Unit {0} → Option (BidderState × BidderState) → Result Outcome Stop → Type 0
EndsBidder nothing still course ended = MayEnd course ended

-- A generated day ended so over a sink and a disk, by the exit status.
pub record RunsGenerated {D : Type 0} (d : disks.Ghosts D) (seed asks : ℕ) (held held_now : Option (List ℕ))
    (old new : D) (status : ℕ) : Type 0 where
  pub ended : Result Outcome Stop
  pub told : status ≡ status_by ended
  pub runs : GeneratedRuns d seed asks held held_now old new ended

-- The sink took the text, and the status is this one; or it took a front of the text and failed; or memory was refused
-- before, and it took nothing.
abbrev pub Tells : List ℕ → ℕ → Option (List ℕ) → Option (List ℕ) → ℕ → Type 0
Tells text done held held_now status =
    ((status ≡ done) × Took held held_now text)
    ⊎ (((status ≡ 5) × TookPrefix held held_now text) ⊎ ((status ≡ 12) × (held_now ≡ held)))

-- What a run of the program is between: a source, a sink, a disk and a keeper of closed days, as they were and as they
-- are after the run.
pub record Outside (S K D P : Type 0) : Type 0 where
  pub source : S
  pub source_now : S
  pub sink : K
  pub sink_now : K
  pub disk : D
  pub disk_now : D
  pub keeper : P
  pub keeper_now : P

-- what words that aren't a command write
abbrev pub usage_line : List ℕ
usage_line = codes "usage: adx COMMAND\n"

-- What a run comes to that read this of the words, between these, by its exit status; where nothing was read, the words are
-- no command.
module _ {S K D P : Type 0} (s : sources.Ghosts S) (k : sinks.Ghosts K) (d : disks.Ghosts D) (p : keepers.Ghosts P)
    (o : Outside S K D P) (status : ℕ) where
  -- what was read of the words ran so; where nothing was read, they are no command
  abbrev pub Runs : Option Command → Type 0
  Runs (Some (Command.Day journal)) =
      RunsAs s k (KeepsDay d) day_command o.source o.source_now o.sink o.sink_now o.disk o.disk_now status
  Runs (Some (Command.Connection journal)) =
      RunsAs s k (KeepsRoster (LeavesExchange d)) conn_command o.source o.source_now o.sink o.sink_now o.disk o.disk_now status
  Runs (Some (Command.Notices journal)) =
      RunsAs s k (KeepsRoster (LeavesDay d)) (history_command AreNotices) o.source o.source_now o.sink o.sink_now o.disk o.disk_now status
  Runs (Some Command.Bidder) = RunsAs s k EndsBidder bidder_command o.source o.source_now o.sink o.sink_now tt tt status
  Runs (Some (Command.Close journal false)) =
      RunsAs s k (KeepsRoster (LeavesDay d)) (history_command IsClosedDay) o.source o.source_now o.sink o.sink_now o.disk o.disk_now status
  Runs (Some (Command.Close journal true)) =
      RunsAs s k (KeepsRoster (LeavesDay d)) (history_command IsGuarantee) o.source o.source_now o.sink o.sink_now o.disk o.disk_now status
  Runs (Some (Command.Generate seed asks)) = RunsGenerated d seed asks (k.held o.sink) (k.held o.sink_now) o.disk o.disk_now status
  Runs (Some Command.Check) = ChecksInput (s.tape o.source) (s.tape o.source_now) (k.held o.sink) (k.held o.sink_now) status
  Runs (Some (Command.ArchivePut file)) = KeepsAs s k p o.source o.source_now o.sink o.sink_now o.keeper o.keeper_now status
  Runs (Some (Command.ArchiveList file seat cid first last)) =
      ListsAs p (record { seat = seat; cid = cid; first = first; last = last }) o.keeper o.keeper_now (k.held o.sink) (k.held o.sink_now) status
  Runs (Some (Command.Reconcile journal name)) =
      RunsAs s k (KeepsRoster (LeavesLedgerDay d)) (reconcile_command name) o.source o.source_now o.sink o.sink_now o.disk o.disk_now status
  Runs (Some (Command.Help topic)) = Tells (help_text topic) 0 (k.held o.sink) (k.held o.sink_now) status
  Runs (Some Command.Version) = Tells version_text 0 (k.held o.sink) (k.held o.sink_now) status
  Runs None = Tells usage_line 2 (k.held o.sink) (k.held o.sink_now) status

-- a run of what was read asks nothing of the source
abbrev pub AsksNothing : Option Command → Type 0
AsksNothing (Some (Command.Day journal)) = ⊥
AsksNothing (Some (Command.Connection journal)) = ⊥
AsksNothing (Some (Command.Notices journal)) = ⊥
AsksNothing (Some Command.Bidder) = ⊥
AsksNothing (Some Command.Check) = ⊥
AsksNothing (Some (Command.ArchivePut file)) = ⊥
AsksNothing (Some (Command.Close journal ratio)) = ⊥
AsksNothing (Some (Command.Reconcile journal name)) = ⊥
AsksNothing _ = Unit {0}

-- a run of what was read leaves the disk as it is
abbrev pub LeavesDisk : Option Command → Type 0
LeavesDisk (Some (Command.Day journal)) = ⊥
LeavesDisk (Some (Command.Connection journal)) = ⊥
LeavesDisk (Some (Command.Notices journal)) = ⊥
LeavesDisk (Some (Command.Close journal ratio)) = ⊥
LeavesDisk (Some (Command.Reconcile journal name)) = ⊥
LeavesDisk (Some (Command.Generate seed asks)) = ⊥
LeavesDisk _ = Unit {0}

-- a run of what was read leaves the keeper of closed days as it is
abbrev pub LeavesKeeper : Option Command → Type 0
LeavesKeeper (Some (Command.ArchivePut file)) = ⊥
LeavesKeeper (Some (Command.ArchiveList file seat cid first last)) = ⊥
LeavesKeeper _ = Unit {0}

-- What was read of the words ran so between these, and left alone what it has no use for.
pub record Does {S K D P : Type 0} (s : sources.Ghosts S) (k : sinks.Ghosts K) (d : disks.Ghosts D) (p : keepers.Ghosts P)
    (o : Outside S K D P) (status : ℕ) (read : Option Command) : Type 0 where
  pub by_run : Runs s k d p o status read
  pub unasked : AsksNothing read → o.source_now ≡ o.source
  pub untouched : LeavesDisk read → o.disk_now ≡ o.disk
  pub nothing_kept : LeavesKeeper read → o.keeper_now ≡ o.keeper

-- Words of any spelling do what `clap` reads of them.
abbrev pub DoesAsRead : {S K D P : Type 0} → sources.Ghosts S → sinks.Ghosts K → disks.Ghosts D → keepers.Ghosts P
    → Outside S K D P → ℕ → List (List ℕ) → Type 0
DoesAsRead s k d p o status words = (read : Option Command) × IsReadingOf words read × Does s k d p o status read

-- What words do, of any spelling and in plain spelling: the clauses that the top call has with a journal and without one.
-- This project's own.
use Rattle.std.specs.Prelude.{◌≡◌, ℕ, List, Some}
use Rattle.day_journal.specs.ByteDisks.{ByteDiskState}
use Rattle.day_journal.specs.declared.disk.Disk as disks
use Rattle.adx_io.specs.declared.sink.Sink as sinks
use Rattle.adx_io.specs.declared.source.Source as sources
use Rattle.command_words.specs.Helps.{help_text, version_text}
use Rattle.command_words.specs.Meanings.{IsPlain}
use Rattle.command_words.specs.declared.command.Command.{Command}
use Rattle.command_words.specs.declared.command.Topic.{Topic}
use Rattle.day_archive.specs.declared.keeper.Keeper as keepers
use Rattle.adx_commands.specs.Anew.{byte_disk, new_disk}
use Rattle.adx_commands.specs.Commands.{AsksNothing, DoesAsRead, IsCommand, IsHelp, IsVersion, LeavesDisk, LeavesKeeper, Outside, Tells}

-- These words ended with this status between these.
pub record DoesWords {S K D P : Type 0} (s : sources.Ghosts S) (k : sinks.Ghosts K) (d : disks.Ghosts D) (p : keepers.Ghosts P)
    (o : Outside S K D P) (status : ℕ) (words : List (List ℕ)) : Type 0 where
  -- They did what `clap` reads of them; where that is no command, they wrote the usage line.
  pub other : DoesAsRead s k d p o status words
  -- In plain spelling they ask for the text of a help or of the version, which the sink took;
  pub help : (topic : Topic) → IsHelp words topic → Tells (help_text topic) 0 (k.held o.sink) (k.held o.sink_now) status
  pub version : IsVersion words → Tells version_text 0 (k.held o.sink) (k.held o.sink_now) status
  -- 2 is the status of no command;
  pub usage : status ≡ 2 → IsCommand words → ⊥
  -- and a command leaves alone what it has no use for.
  pub unasked : (command : Command) → IsPlain command words → AsksNothing (Some command) → o.source_now ≡ o.source
  pub untouched : (command : Command) → IsPlain command words → LeavesDisk (Some command) → o.disk_now ≡ o.disk
  pub nothing_kept : (command : Command) → IsPlain command words → LeavesKeeper (Some command) → o.keeper_now ≡ o.keeper

-- the same on a disk in memory that was new
abbrev pub DoesWordsAnew : {S K P : Type 0} → sources.Ghosts S → sinks.Ghosts K → keepers.Ghosts P → (source source_now : S)
    (sink sink_now : K) (keeper keeper_now : P) → ℕ → List (List ℕ) → Type 0
DoesWordsAnew s k p source source_now sink sink_now keeper keeper_now status words =
    (kept : ByteDiskState) × DoesWords s k byte_disk p (record {
      source = source;
      source_now = source_now;
      sink = sink;
      sink_now = sink_now;
      disk = new_disk;
      disk_now = kept;
      keeper = keeper;
      keeper_now = keeper_now;
    }) status words

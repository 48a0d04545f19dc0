-- What words do, by what was read of them.
use Rattle.std.proofs.Common.{◌≡◌, ℕ, List, subst}
use Rattle.day_journal.specs.ByteDisks.{ByteDiskState}
use Rattle.day_journal.specs.declared.disk.Disk as disks
use Rattle.adx_io.specs.declared.sink.Sink as sinks
use Rattle.adx_io.specs.declared.source.Source as sources
use Rattle.command_words.specs.declared.command.Command.{Command}
use Rattle.day_archive.specs.declared.keeper.Keeper as keepers
use Rattle.adx_commands.specs.Anew.{byte_disk, new_disk}
use Rattle.adx_commands.specs.Commands.{DoesAsRead, Outside}
use Rattle.adx_commands.specs.Words.{DoesWords, DoesWordsAnew}
use Rattle.adx_commands.proofs.Commands.{plain_does, plain_taken}

pub does_words : {S K D P : Type 0} (s : sources.Ghosts S) (k : sinks.Ghosts K) (d : disks.Ghosts D) (p : keepers.Ghosts P) (o : Outside S K D P) (status : ℕ) (words : List (List ℕ)) → DoesAsRead s k d p o status words → DoesWords s k d p o status words
does_words s k d p o status words does = record {
  other = does;
  help = λ topic help. (plain_does does (Command.Help topic) help).by_run;
  version = λ version. (plain_does does Command.Version version).by_run;
  usage = λ is command. plain_taken does is command;
  unasked = λ command plain nothing. (plain_does does command plain).unasked nothing;
  untouched = λ command plain left. (plain_does does command plain).untouched left;
  nothing_kept = λ command plain left. (plain_does does command plain).nothing_kept left;
}

module _ {S K P : Type 0} (s : sources.Ghosts S) (k : sinks.Ghosts K) (p : keepers.Ghosts P) (source source_now : S) (sink sink_now : K) (keeper keeper_now : P) where
  abbrev between : ByteDiskState → ByteDiskState → Outside S K ByteDiskState P
  between old kept = record {
    source = source;
    source_now = source_now;
    sink = sink;
    sink_now = sink_now;
    disk = old;
    disk_now = kept;
    keeper = keeper;
    keeper_now = keeper_now;
  }

  pub words_anew : (old kept : ByteDiskState) (status : ℕ) (words : List (List ℕ)) → old ≡ new_disk → DoesWords s k byte_disk p (between old kept) status words → DoesWordsAnew s k p source source_now sink sink_now keeper keeper_now status words
  words_anew old kept status words is does = (kept, subst (λ (x : ByteDiskState). DoesWords s k byte_disk p (between x kept) status words) is does)

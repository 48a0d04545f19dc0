-- Where the journal or the archive of a command is kept. This project's own.
use Rattle.std.specs.Prelude.{◌≡◌, ℕ, List, Option, Some, None}
use Rattle.command_words.specs.declared.command.Command.{Command}
use Rattle.adx_commands.specs.declared.kept.Kept.{Kept}

-- a day's journal, by the file that is named: in memory where none is
abbrev pub kept_by : Option (List ℕ) → Kept
kept_by None = Kept.InMemory
kept_by (Some file) = Kept.Made file

-- what was read is kept so: a day's journal is made where it isn't there, and one that is printed from is never made; an
-- archive is a file of its own, which is made by what is put into it alone
abbrev pub IsKeptAs : Option Command → Kept → Type 0
IsKeptAs (Some (Command.Day journal)) kept = kept ≡ kept_by journal
IsKeptAs (Some (Command.Connection journal)) kept = kept ≡ kept_by journal
IsKeptAs (Some (Command.Notices journal)) kept = kept ≡ Kept.Existing journal
IsKeptAs (Some (Command.Close journal ratio)) kept = kept ≡ Kept.Existing journal
IsKeptAs (Some (Command.Reconcile journal name)) kept = kept ≡ Kept.Existing journal
IsKeptAs (Some (Command.ArchivePut file)) kept = kept ≡ Kept.Archived file
IsKeptAs (Some (Command.ArchiveList file seat cid first last)) kept = kept ≡ Kept.Listed file
IsKeptAs _ kept = kept ≡ Kept.InMemory

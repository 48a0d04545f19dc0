-- The values of a command's options, by what its words ask for. This project's own.
use Rattle.std.specs.Prelude.{◌≡◌, ℕ, List, Option, Some, None}
use Rattle.command_words.specs.Taken.{IsReadingOf}
use Rattle.command_words.specs.NetworkTaken.{IsNetworkReadingOf}
use Rattle.command_words.specs.declared.command.Command.{Command}
use Rattle.command_words.specs.declared.network.NetworkCommand.{NetworkCommand}
use Rattle.command_words.specs.declared.paths.Paths.{Paths}

-- no option has a value
abbrev pub no_paths : Paths
no_paths = record { roster = None; journal = None; archive = None; prices = None; port = None; workers = None }

-- the values of a command's options, and of those of a command over the network
abbrev pub command_paths : Command → Paths
command_paths (Command.Day journal) = record no_paths { journal = journal }
command_paths (Command.Connection journal) = record no_paths { journal = journal }
command_paths (Command.Notices journal) = record no_paths { journal = Some journal }
command_paths Command.Bidder = no_paths
command_paths (Command.Close journal ratio) = record no_paths { journal = Some journal }
command_paths Command.Check = no_paths
command_paths (Command.ArchivePut archive) = record no_paths { archive = Some archive }
command_paths (Command.ArchiveList archive seat cid first last) = record no_paths { archive = Some archive }
command_paths (Command.Reconcile journal name) = record no_paths { journal = Some journal }
command_paths (Command.Generate seed asks) = no_paths
command_paths (Command.Help topic) = no_paths
command_paths Command.Version = no_paths

abbrev pub network_paths : NetworkCommand → Paths
network_paths (NetworkCommand.Serve roster journal port workers) =
    record no_paths { roster = Some roster; journal = Some journal; port = Some port; workers = Some workers }
network_paths (NetworkCommand.Post roster journal) = record no_paths { roster = Some roster; journal = Some journal }
network_paths (NetworkCommand.Bid prices port) = record no_paths { prices = Some prices; port = Some port }

-- the values of the options of what was read, none where nothing was
abbrev pub network_paths_of : Option NetworkCommand → Paths
network_paths_of None = no_paths
network_paths_of (Some command) = network_paths command

-- they are those of what the words are read as: a command that doesn't talk over the network, or else one that does
abbrev pub ArePathsRead : List (List ℕ) → Option Command → Paths → Type 0
ArePathsRead words (Some command) paths = paths ≡ command_paths command
ArePathsRead words None paths = (read : Option NetworkCommand) × IsNetworkReadingOf words read × (paths ≡ network_paths_of read)

abbrev pub ArePathsOf : List (List ℕ) → Paths → Type 0
ArePathsOf words paths = (read : Option Command) × IsReadingOf words read × ArePathsRead words read paths

-- The commands that words may name in plain spelling, and what they ask for. This project's own.
use Rattle.std.specs.Prelude.{◌≡◌, ◌⊎◌, ℕ, ◌-◌, ◌^◌, ◌≤◌, List, [], ◌∷◌, map, find, slice_get, codes, true, Option, Some, option_and_then}
use Rattle.std.specs.Str.{bytes_eq}
use Rattle.adx_units.specs.Number.{whole_up_to}
use Rattle.command_words.specs.Spelling.{Given, Help, Row, Spells, SpellsWith, dashed, value_of}
use Rattle.command_words.specs.declared.command.Command.{Command}
use Rattle.command_words.specs.declared.command.Topic.{Topic}
use Rattle.command_words.specs.declared.command.TheConstants.{MOST_ASKS}
use Rattle.command_words.specs.declared.table.TheConstants.{COMMANDS, HELPS}

-- the names of options
abbrev pub journal_name : List ℕ
journal_name = codes "journal"

-- the option --seed of gen
abbrev pub seed_name : List ℕ
seed_name = codes "seed"

-- the option --asks of gen
abbrev pub asks_name : List ℕ
asks_name = codes "asks"

-- the option --bidder of reconcile
abbrev pub bidder_name : List ℕ
bidder_name = codes "bidder"

-- the option --roster of serve and post
abbrev pub roster_name : List ℕ
roster_name = codes "roster"

-- the option --prices of bid
abbrev pub prices_name : List ℕ
prices_name = codes "prices"

-- the option --port of serve and bid
abbrev pub port_name : List ℕ
port_name = codes "port"

-- the option --workers of serve
abbrev pub workers_name : List ℕ
workers_name = codes "workers"

-- the name of a flag
abbrev pub ratio_name : List ℕ
ratio_name = codes "ratio"

-- the option --archive of the commands on the archive
abbrev pub archive_name : List ℕ
archive_name = codes "archive"

-- the option --seat of archive-list
abbrev pub seat_name : List ℕ
seat_name = codes "seat"

-- the option --cid of archive-list
abbrev pub cid_name : List ℕ
cid_name = codes "cid"

-- the option --from of archive-list
abbrev pub from_name : List ℕ
from_name = codes "from"

-- the option --to of archive-list
abbrev pub to_name : List ℕ
to_name = codes "to"

-- the commands that the program has, and the helps on them: the table of its source
abbrev pub commands : List Row
commands = map (λ raw. record {
  word = raw.0.now;
  options = map (λ choice. record { name = choice.0.now; value = choice.1.now; needed = choice.2 }) raw.1.now;
  purpose = raw.2.now;
}) COMMANDS

abbrev pub helps : List Help
helps = map (λ raw. record { about = raw.0.now; statuses = raw.1.now; example = raw.2.now }) HELPS

-- the command of a word
abbrev pub row_of : List ℕ → Option Row
row_of word = find (λ row. bytes_eq row.word word) commands

-- the row is that of this command
abbrev pub IsRowOf : List ℕ → Row → Type 0
IsRowOf word row = row_of word ≡ Some row

-- the number that an option's value tells: decimal, without a sign or a leading zero, and at most so much
abbrev pub number_of : ℕ → Option (List ℕ) → Option ℕ
number_of most = option_and_then (whole_up_to most)

-- what these options of a command ask for
abbrev pub AsksFor : Command → Row → List Given → Type 0
AsksFor (Command.Day journal) row given = IsRowOf (codes "day") row × (value_of journal_name given ≡ journal)
AsksFor (Command.Connection journal) row given = IsRowOf (codes "conn") row × (value_of journal_name given ≡ journal)
AsksFor (Command.Notices journal) row given = IsRowOf (codes "notices") row × (value_of journal_name given ≡ Some journal)
AsksFor Command.Bidder row given = IsRowOf (codes "bidder") row
AsksFor (Command.Close journal ratio) row given = IsRowOf (codes "close") row × (value_of journal_name given ≡ Some journal)
AsksFor Command.Check row given = IsRowOf (codes "check") row
AsksFor (Command.ArchivePut archive) row given = IsRowOf (codes "archive-put") row × (value_of archive_name given ≡ Some archive)
AsksFor (Command.ArchiveList archive seat cid first last) row given =
    IsRowOf (codes "archive-list") row × (value_of archive_name given ≡ Some archive) × (value_of seat_name given ≡ Some seat) × (value_of cid_name given ≡ Some cid)
    × (value_of from_name given ≡ Some first) × (value_of to_name given ≡ Some last)
AsksFor (Command.Reconcile journal name) row given =
    IsRowOf (codes "reconcile") row × (value_of journal_name given ≡ Some journal) × (value_of bidder_name given ≡ Some name)
AsksFor (Command.Generate seed asks) row given =
    IsRowOf (codes "gen") row × (number_of (2 ^ 64 - 1) (value_of seed_name given) ≡ Some seed) × (number_of MOST_ASKS (value_of asks_name given) ≡ Some asks)
AsksFor (Command.Help topic) row given = ⊥
AsksFor Command.Version row given = ⊥

-- the two words that ask for help or for the version
abbrev pub help_word : List ℕ
help_word = dashed (codes "help")

-- the word --version
abbrev pub version_word : List ℕ
version_word = dashed (codes "version")

-- the word that asks for help in front of a command's
abbrev pub first_help_word : List ℕ
first_help_word = codes "help"

-- the words ask for help: on the program alone, or on the command at this place of the table after its word or before it
abbrev pub AsksHelp : Topic → List (List ℕ) → Type 0
AsksHelp Topic.Program words = (words ≡ help_word ∷ []) ⊎ ((words ≡ first_help_word ∷ []) ⊎ (words ≡ first_help_word ∷ first_help_word ∷ []))
AsksHelp (Topic.Command place) words =
    (row : Row) × (slice_get commands place ≡ Some row) × ((words ≡ row.word ∷ help_word ∷ []) ⊎ (words ≡ first_help_word ∷ row.word ∷ []))

-- the words ask for this in plain spelling
abbrev pub IsPlain : Command → List (List ℕ) → Type 0
IsPlain (Command.Help topic) words = AsksHelp topic words
IsPlain Command.Version words = words ≡ version_word ∷ []
IsPlain (Command.Close journal true) words = (row : Row) × (given : List Given) × SpellsWith row ratio_name given words × AsksFor (Command.Close journal true) row given
IsPlain command words = (row : Row) × (given : List Given) × Spells row given words × AsksFor command row given

-- a generated day that is asked for has at most so many asks
abbrev pub HasFewAsks : Option Command → Type 0
HasFewAsks (Some (Command.Generate seed asks)) = asks ≤ MOST_ASKS
HasFewAsks _ = Unit {0}

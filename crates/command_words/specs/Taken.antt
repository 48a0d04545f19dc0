-- What words of any spelling come to, by `clap`'s own definitions of a parse; a caller that writes words in plain spelling
-- needs none of it. This project's own.
use Rattle.std.specs.Prelude.{◌≡◌, ℕ, ◌-◌, ◌^◌, List, [], ◌∷◌, ◌++◌, map, codes, Bool, true, false, if◌then◌else◌, Option, Some, None, option_and_then, option_map, position}
use Rattle.std.specs.List.{fold}
use Rattle.std.specs.Option.{option_map_or}
use Rattle.std.specs.Str.{bytes_eq}
use Rattle.clap.specs.Kinds.{IsAmong, Kinds}
use Rattle.clap.specs.Faults.{fault_of}
use Rattle.clap.specs.Simple.{App, app_of, new_app, new_rule, new_shape, subcommand_of, with_rule, with_subcommand}
use Rattle.clap.specs.Walk.{Rule, first_of}
use Rattle.clap.specs.Walk.{Row as Found}
use Rattle.clap.specs.declared.builder.command.Command.{Command as Built}
use Rattle.clap.specs.declared.builder.command.Command.TheViews.{out-Command as fields_of}
use Rattle.clap.specs.declared.builder.action.ArgAction.TheVariants.{SetTrue}
use Rattle.clap.specs.declared.error.kind.ErrorKind.{ErrorKind}
use Rattle.command_words.specs.Spelling.{Choice, Row, is_flag}
use Rattle.command_words.specs.Meanings.{archive_name, asks_name, bidder_name, cid_name, commands, first_help_word, from_name, help_word, journal_name, number_of, ratio_name, seat_name, seed_name, to_name}
use Rattle.command_words.specs.declared.command.Command.{Command}
use Rattle.command_words.specs.declared.command.Topic.{Topic}
use Rattle.command_words.specs.declared.command.TheConstants.{MOST_ASKS}

-- an option after its name: one with a value, which may be needed, or a flag
abbrev pub rule_for : Choice → Rule
rule_for choice =
    let named = record (new_rule choice.name) { long = Some choice.name } in
    if choice.needed then record named { required = true }
    else if is_flag choice then record named { action = Some SetTrue }
    else named

-- a command as a subcommand of clap's
abbrev pub subcommand_for : Row → App
subcommand_for row = fold with_rule (new_app row.word) (map rule_for row.options)

-- the command has this form, and no argument that its subcommands see
abbrev pub HasForm : App → Built → Type 0
HasForm app command = (app_of command ≡ app) × ((fields_of command).has_globals ≡ false)

-- the program without its commands
abbrev pub no_commands : App
no_commands = record {
  top = record (new_shape (codes "adx")) { no_binary_name = true; disable_help_subcommand = true; has_version = true };
  subs = [];
}

-- the program with these commands, and with all that it has
abbrev pub program_of : List Row → App
program_of = fold (λ (program : App) (row : Row). with_subcommand program (subcommand_for row).top) no_commands

abbrev pub application : App
application = program_of commands

-- what the rows that clap found ask for
abbrev pub generate : Option ℕ → Option ℕ → Option Command
generate seed asks = option_and_then (λ s. option_map (λ a. Command.Generate s a) asks) seed

-- `notices`, if its journal was found
abbrev pub print_notices : Option (List ℕ) → Option Command
print_notices = option_map (λ j. Command.Notices j)

-- a flag that stands among the words has the value true, and another the value false
abbrev pub is_set : List ℕ → List Found → Bool
is_set name found = option_map_or (λ text. bytes_eq text (codes "true")) (first_of name found) false

-- what the options of close ask for
abbrev pub close_by : Option (List ℕ) → Bool → Option Command
close_by journal ratio = option_map (λ j. Command.Close j ratio) journal

-- `reconcile`, if its journal and its bidder were found
abbrev pub reconcile_with : Option (List ℕ) → Option (List ℕ) → Option Command
reconcile_with journal name = option_and_then (λ j. option_map (λ n. Command.Reconcile j n) name) journal

-- `archive-put`, if its archive was found
abbrev pub put_archive : Option (List ℕ) → Option Command
put_archive = option_map (λ a. Command.ArchivePut a)

-- `archive-list`, if its five options were found
abbrev pub list_archive : Option (List ℕ) → Option (List ℕ) → Option (List ℕ) → Option (List ℕ) → Option (List ℕ) → Option Command
list_archive archive seat cid first last =
    option_and_then (λ a.
    option_and_then (λ s.
    option_and_then (λ c.
    option_and_then (λ f.
    option_map (λ l. Command.ArchiveList a s c f l) last) first) cid) seat) archive

-- the generated day that the options ask for
abbrev pub generated_by : List Found → Option Command
generated_by found = generate (number_of (2 ^ 64 - 1) (first_of seed_name found)) (number_of MOST_ASKS (first_of asks_name found))

-- the days that these rows ask for
abbrev pub days_asked : List Found → Option Command
days_asked found =
    list_archive (first_of archive_name found) (first_of seat_name found) (first_of cid_name found)
    (first_of from_name found) (first_of to_name found)

-- the command of a word and the options that were found
abbrev pub command_by : List ℕ → List Found → Option Command
command_by word found =
    if bytes_eq word (codes "day") then Some (Command.Day (first_of journal_name found))
    else if bytes_eq word (codes "conn") then Some (Command.Connection (first_of journal_name found))
    else if bytes_eq word (codes "notices") then print_notices (first_of journal_name found)
    else if bytes_eq word (codes "bidder") then Some Command.Bidder
    else if bytes_eq word (codes "gen") then generated_by found
    else if bytes_eq word (codes "close") then close_by (first_of journal_name found) (is_set ratio_name found)
    else if bytes_eq word (codes "check") then Some Command.Check
    else if bytes_eq word (codes "archive-put") then put_archive (first_of archive_name found)
    else if bytes_eq word (codes "archive-list") then days_asked found
    else if bytes_eq word (codes "reconcile") then reconcile_with (first_of journal_name found) (first_of bidder_name found)
    else None

-- the same, if a command was found at all
abbrev pub command_found : Option (List ℕ × List Found) → Option Command
command_found = option_and_then (λ sub. command_by sub.0 sub.1)

-- the topic that words ask help for, by the first of them: the command of that word, or else the program
abbrev pub topic_by : List ℕ → Topic
topic_by word = option_map_or (λ place. Topic.Command place) (position (λ row. bytes_eq row.word word) commands) Topic.Program

-- what help is asked about, by the words after `help`
abbrev pub topic_of : List (List ℕ) → Topic
topic_of [] = Topic.Program
topic_of (word ∷ rest) = topic_by word

-- the words without a first `help`
abbrev pub without_first_help : List (List ℕ) → List (List ℕ)
without_first_help [] = []
without_first_help (word ∷ rest) = if bytes_eq word first_help_word then rest else word ∷ rest

-- the words that `clap` takes: those that were given, but that `help` in front goes to the end, as `--help`, and a second one
-- with it
abbrev pub turned_by : Bool → List ℕ → List (List ℕ) → List (List ℕ)
turned_by true word rest = without_first_help rest ++ help_word ∷ []
turned_by false word rest = word ∷ rest

abbrev pub turned_round : List (List ℕ) → List (List ℕ)
turned_round [] = []
turned_round (word ∷ rest) = turned_by (bytes_eq word first_help_word) word rest

-- a parse takes the words, or ends with an error of a kind that it may have
abbrev pub Comes : Option ErrorKind → Kinds → Type 0
Comes None kinds = kinds ≡ []
Comes (Some kind) kinds = IsAmong kind kinds

-- what is read where a parse ended with this error
abbrev pub answer_by : ErrorKind → List (List ℕ) → Option Command
answer_by ErrorKind.DisplayHelp words = Some (Command.Help (topic_of words))
answer_by ErrorKind.DisplayVersion words = Some Command.Version
answer_by _ words = None

-- what is read of a parse that took the words, or ended with this error
abbrev pub answer : Option ErrorKind → List (List ℕ) → Option Command
answer None words = command_found (subcommand_of application words)
answer (Some kind) words = answer_by kind words

-- the words are read so: by what a parse of them comes to
pub record IsReadingOf (words : List (List ℕ)) (read : Option Command) : Type 0 where
  pub outcome : Option ErrorKind
  pub comes : Comes outcome (fault_of application (turned_round words))
  pub answers : read ≡ answer outcome (turned_round words)

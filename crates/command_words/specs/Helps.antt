-- The texts of `--help` and `--version`, by the table of commands. This project's own.
use Rattle.std.specs.Prelude.{ℕ, List, [], ◌++◌, codes, slice_get, if◌then◌else◌, Option, Some, None}
use Rattle.std.specs.List.{flat_map}
use Rattle.command_words.specs.Spelling.{Choice, Help, Row, is_flag}
use Rattle.command_words.specs.Meanings.{commands, helps}
use Rattle.command_words.specs.declared.command.Topic.{Topic}
use Rattle.command_words.specs.declared.help.TheConstants.{PROGRAM_ABOUT, PROGRAM_STATUSES, VERSION}

-- an option as a usage line shows it: in brackets where it may be left out
abbrev pub choice_text : Choice → List ℕ
choice_text choice =
    if choice.needed then codes " --" ++ choice.name ++ codes " " ++ choice.value
    else if is_flag choice then codes " [--" ++ choice.name ++ codes "]"
    else codes " [--" ++ choice.name ++ codes " " ++ choice.value ++ codes "]"

-- a command's word and its options
abbrev pub usage_text : Row → List ℕ
usage_text row = row.word ++ flat_map choice_text row.options

-- the help on a command below its usage line: what goes in and out, its exit statuses, and an example
abbrev pub help_body : Help → List ℕ
help_body help =
    codes "\n\n" ++ help.about ++ codes "\n\nstatus:\n" ++ help.statuses ++ codes "\nexample:\n  " ++ help.example ++ codes "\n"

-- the help on a command: how it is called, and that
abbrev pub command_help : Row → Help → List ℕ
command_help row help = codes "usage: adx " ++ usage_text row ++ help_body help

-- what the help on the program says of a command: how it is called, and what it is for
abbrev pub command_line : Row → List ℕ
command_line row = codes "  " ++ usage_text row ++ codes "\n      " ++ row.purpose ++ codes "\n"

-- the help on the program
abbrev pub program_help : List ℕ
program_help = PROGRAM_ABOUT.now ++ flat_map command_line commands ++ PROGRAM_STATUSES.now

-- the help on a command, where the table has it
abbrev pub help_by : Option Row → Option Help → List ℕ
help_by (Some row) (Some help) = command_help row help
help_by (Some row) None = []
help_by None help = []

-- the help on a topic
abbrev pub help_text : Topic → List ℕ
help_text Topic.Program = program_help
help_text (Topic.Command place) = help_by (slice_get commands place) (slice_get helps place)

-- what `--version` shows
abbrev pub version_text : List ℕ
version_text = VERSION.now

-- What words of any spelling ask for of the commands that talk over the network, by `clap`'s own definitions of a parse; a
-- caller that writes words in plain spelling needs none of it. This project's own.
use Rattle.std.specs.Prelude.{◌≡◌, ℕ, List, codes, if◌then◌else◌, Option, Some, None, option_and_then, option_map}
use Rattle.std.specs.Str.{bytes_eq}
use Rattle.clap.specs.Faults.{fault_of}
use Rattle.clap.specs.Simple.{subcommand_of}
use Rattle.clap.specs.Walk.{first_of}
use Rattle.clap.specs.Walk.{Row as Found}
use Rattle.clap.specs.declared.error.kind.ErrorKind.{ErrorKind}
use Rattle.command_words.specs.Meanings.{journal_name, number_of, port_name, prices_name, roster_name, workers_name}
use Rattle.command_words.specs.Network.{workers_of}
use Rattle.command_words.specs.Taken.{Comes, application, turned_round}
use Rattle.command_words.specs.declared.network.NetworkCommand.{NetworkCommand}
use Rattle.command_words.specs.declared.network.TheConstants.{MOST_PORT}

-- what the rows that clap found ask for
abbrev pub serve_with : Option (List ℕ) → Option (List ℕ) → Option ℕ → Option ℕ → Option NetworkCommand
serve_with roster journal port workers =
    option_and_then (λ r.
    option_and_then (λ j.
    option_and_then (λ p.
    option_map (λ w. NetworkCommand.Serve r j p w) workers) port) journal) roster

-- what the values that clap found ask for, of post
abbrev pub post_with : Option (List ℕ) → Option (List ℕ) → Option NetworkCommand
post_with roster journal = option_and_then (λ r. option_map (λ j. NetworkCommand.Post r j) journal) roster

abbrev pub bid_with : Option (List ℕ) → Option ℕ → Option NetworkCommand
bid_with prices port = option_and_then (λ f. option_map (λ p. NetworkCommand.Bid f p) port) prices

-- the command of a word and the options that were found
abbrev pub network_by : List ℕ → List Found → Option NetworkCommand
network_by word found =
    if bytes_eq word (codes "serve") then
    serve_with (first_of roster_name found) (first_of journal_name found) (number_of MOST_PORT (first_of port_name found)) (workers_of (first_of workers_name found))
    else if bytes_eq word (codes "post") then post_with (first_of roster_name found) (first_of journal_name found)
    else if bytes_eq word (codes "bid") then bid_with (first_of prices_name found) (number_of MOST_PORT (first_of port_name found))
    else None

-- the same, if a command was found at all
abbrev pub network_found : Option (List ℕ × List Found) → Option NetworkCommand
network_found = option_and_then (λ sub. network_by sub.0 sub.1)

-- an answer in place of a parse asks for nothing of these commands
abbrev pub network_answer : Option ErrorKind → List (List ℕ) → Option NetworkCommand
network_answer None words = network_found (subcommand_of application words)
network_answer (Some kind) words = None

-- the words are read so: by what a parse of them comes to
pub record IsNetworkReadingOf (words : List (List ℕ)) (read : Option NetworkCommand) : Type 0 where
  pub outcome : Option ErrorKind
  pub comes : Comes outcome (fault_of application (turned_round words))
  pub answers : read ≡ network_answer outcome (turned_round words)

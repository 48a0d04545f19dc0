-- The commands that talk over the network, which words may name in plain spelling, and what they ask for. This project's
-- own.
use Rattle.std.specs.Prelude.{◌≡◌, ℕ, ◌<◌, ◌≤◌, nat_lt, List, codes, if◌then◌else◌, Option, Some, None, option_and_then}
use Rattle.command_words.specs.Spelling.{Given, Row, Spells, value_of}
use Rattle.command_words.specs.Meanings.{IsRowOf, journal_name, number_of, port_name, prices_name, roster_name, workers_name}
use Rattle.command_words.specs.declared.network.NetworkCommand.{NetworkCommand}
use Rattle.command_words.specs.declared.network.TheConstants.{MOST_PORT, MOST_WORKERS}

-- the number of workers that an option's value tells, which isn't 0
abbrev pub workers_of : Option (List ℕ) → Option ℕ
workers_of text = option_and_then (λ n. if nat_lt 0 n then Some n else None) (number_of MOST_WORKERS text)

-- what these options of a command ask for
abbrev pub AsksNetwork : NetworkCommand → Row → List Given → Type 0
AsksNetwork (NetworkCommand.Serve roster journal port workers) row given =
    IsRowOf (codes "serve") row × (value_of roster_name given ≡ Some roster) × (value_of journal_name given ≡ Some journal)
    × (number_of MOST_PORT (value_of port_name given) ≡ Some port) × (workers_of (value_of workers_name given) ≡ Some workers)
AsksNetwork (NetworkCommand.Post roster journal) row given =
    IsRowOf (codes "post") row × (value_of roster_name given ≡ Some roster) × (value_of journal_name given ≡ Some journal)
AsksNetwork (NetworkCommand.Bid prices port) row given =
    IsRowOf (codes "bid") row × (value_of prices_name given ≡ Some prices) × (number_of MOST_PORT (value_of port_name given) ≡ Some port)

-- a command that serves has as many workers as may be
abbrev pub HasFewWorkers : Option NetworkCommand → Type 0
HasFewWorkers (Some (NetworkCommand.Serve roster journal port workers)) = (0 < workers) × (workers ≤ MOST_WORKERS)
HasFewWorkers _ = Unit {0}

-- the words ask for this in plain spelling
abbrev pub IsPlainNetwork : NetworkCommand → List (List ℕ) → Type 0
IsPlainNetwork command words = (row : Row) × (given : List Given) × Spells row given words × AsksNetwork command row given

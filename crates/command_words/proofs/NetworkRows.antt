-- Words of the commands that talk over the network, in plain spelling, are read as what they ask for.
use Rattle.std.proofs.Common.{◌≡◌, ◌≢◌, ◌∙◌, inl, inr, sym, ap, ap₂, subst, refl, ℕ, List, [], ◌∷◌, map, codes, Option, Some, None}
use Rattle.std.specs.Option.{unwrap_or}
use Rattle.clap.specs.Faults.{fault_of}
use Rattle.clap.specs.Kinds.{HasKind, IsAmong}
use Rattle.clap.specs.Simple.{App, subcommand_of}
use Rattle.clap.specs.Values.{kind_of}
use Rattle.clap.specs.Walk.{Row as Found}
use Rattle.clap.specs.declared.error.Error.{Error}
use Rattle.clap.specs.declared.error.kind.ErrorKind.{ErrorKind}
use Rattle.command_words.specs.Spelling.{Given, Row}
use Rattle.command_words.specs.Meanings.{IsRowOf, journal_name, number_of, port_name, prices_name, roster_name, workers_name}
use Rattle.command_words.specs.Network.{IsPlainNetwork, workers_of}
use Rattle.command_words.specs.NetworkTaken.{IsNetworkReadingOf, bid_with, network_answer, network_found, post_with, serve_with}
use Rattle.command_words.specs.Taken.{Comes, IsReadingOf, answer, application, command_found, turned_round}
use Rattle.command_words.specs.declared.command.Command.{Command}
use Rattle.command_words.specs.declared.network.NetworkCommand.{NetworkCommand}
use Rattle.command_words.specs.declared.network.TheConstants.{MOST_PORT}
use Rattle.command_words.proofs.Walks.{row_for}
use Rattle.command_words.proofs.Levels.{first_found}
use Rattle.command_words.proofs.Programs.{row_word}
use Rattle.command_words.proofs.Rows.{Takes, has_no_flag, other_word, stays, takes}

-- the same texts and numbers ask for the same
pub same_four : (r j roster journal : Option (List ℕ)) (p w port workers : Option ℕ) → r ≡ roster → j ≡ journal → p ≡ port → w ≡ workers
    → serve_with r j p w ≡ serve_with roster journal port workers
same_four r j roster journal p w port workers er ej ep ew =
    ap (λ x. serve_with x j p w) er ∙ ap (λ x. serve_with roster x p w) ej ∙ ap (λ x. serve_with roster journal x w) ep ∙ ap (λ x. serve_with roster journal port x) ew

-- ---- words in plain spelling

-- what an answer by no fault is
network_taken : (command : NetworkCommand) (words : List (List ℕ)) → fault_of application words ≡ [] → network_found (subcommand_of application words) ≡ Some command
    → (outcome : Option ErrorKind) → Comes outcome (fault_of application words) → network_answer outcome words ≡ Some command
network_taken command words none is None comes = is
network_taken command words none is (Some kind) comes = absurd (subst (Comes (Some kind)) none comes)

-- a command in plain spelling stands as `clap` takes it
network_turned : (command : NetworkCommand) (words : List (List ℕ)) → IsPlainNetwork command words → turned_round words ≡ words
network_turned (NetworkCommand.Serve roster journal port workers) words (row, given, spells, is) = stays row given words (other_word (codes "serve") row is.0) spells
network_turned (NetworkCommand.Post roster journal) words (row, given, spells, is) = stays row given words (other_word (codes "post") row is.0) spells
network_turned (NetworkCommand.Bid prices port) words (row, given, spells, is) = stays row given words (other_word (codes "bid") row is.0) spells

-- what is found of a row is found by its word
found_by : (word : List ℕ) (row : Row) → IsRowOf word row → (given : List Given) → network_found (Some (row.word, map row_for given)) ≡ network_found (Some (word, map row_for given))
found_by word row is given = ap (λ (w : List ℕ). network_found (Some (w, map row_for given))) (row_word word row is)

none_by : (word : List ℕ) (row : Row) → IsRowOf word row → (given : List Given) → command_found (Some (row.word, map row_for given)) ≡ command_found (Some (word, map row_for given))
none_by word row is given = ap (λ (w : List ℕ). command_found (Some (w, map row_for given))) (row_word word row is)

-- and is taken
network_takes : (command : NetworkCommand) (words : List (List ℕ)) → IsPlainNetwork command words
    → (word : List ℕ) × (rows : List Found) × Takes word rows words × (network_found (Some (word, rows)) ≡ Some command) × (command_found (Some (word, rows)) ≡ None)
network_takes (NetworkCommand.Serve roster journal port workers) words (row, given, spells, is) = (
  row.word,
  map row_for given,
  takes (codes "serve") row given words is.0 (sym (ap (λ (o : Option Row). has_no_flag (unwrap_or o row)) is.0)) spells,
  found_by (codes "serve") row is.0 given ∙ same_four _ _ (Some roster) (Some journal) _ _ (Some port) (Some workers) (first_found roster_name given ∙ is.1) (first_found journal_name given ∙ is.2)
      (ap (number_of MOST_PORT) (first_found port_name given) ∙ is.3) (ap workers_of (first_found workers_name given) ∙ is.4),
  none_by (codes "serve") row is.0 given,
)
network_takes (NetworkCommand.Post roster journal) words (row, given, spells, is) = (
  row.word,
  map row_for given,
  takes (codes "post") row given words is.0 (sym (ap (λ (o : Option Row). has_no_flag (unwrap_or o row)) is.0)) spells,
  found_by (codes "post") row is.0 given ∙ ap₂ post_with (first_found roster_name given ∙ is.1) (first_found journal_name given ∙ is.2),
  none_by (codes "post") row is.0 given,
)
network_takes (NetworkCommand.Bid prices port) words (row, given, spells, is) = (
  row.word,
  map row_for given,
  takes (codes "bid") row given words is.0 (sym (ap (λ (o : Option Row). has_no_flag (unwrap_or o row)) is.0)) spells,
  found_by (codes "bid") row is.0 given ∙ ap₂ bid_with (first_found prices_name given ∙ is.1) (ap (number_of MOST_PORT) (first_found port_name given) ∙ is.2),
  none_by (codes "bid") row is.0 given,
)

network_read : (command : NetworkCommand) (words : List (List ℕ)) → IsPlainNetwork command words → (outcome : Option ErrorKind) → Comes outcome (fault_of application words)
    → network_answer outcome words ≡ Some command
network_read command words plain =
    let its = network_takes command words plain in
    network_taken command words its.2.0 (ap network_found its.2.1 ∙ its.3)

pub network_only : (words : List (List ℕ)) (read : Option NetworkCommand) → IsNetworkReadingOf words read → (command : NetworkCommand) → IsPlainNetwork command words → read ≡ Some command
network_only words read is command plain =
    let turned = network_turned command words plain in
    is.answers ∙ ap (network_answer is.outcome) turned
    ∙ network_read command words plain is.outcome (subst (λ ws. Comes is.outcome (fault_of application ws)) turned is.comes)

-- it asks for no other command
none_taken : (words : List (List ℕ)) → fault_of application words ≡ [] → command_found (subcommand_of application words) ≡ None
    → (outcome : Option ErrorKind) → Comes outcome (fault_of application words) → answer outcome words ≡ None
none_taken words none is None comes = is
none_taken words none is (Some kind) comes = absurd (subst (Comes (Some kind)) none comes)

pub no_command_read : (words : List (List ℕ)) (read : Option Command) → IsReadingOf words read → (command : NetworkCommand) → IsPlainNetwork command words → read ≡ None
no_command_read words read is command plain =
    let turned = network_turned command words plain in
    let its = network_takes command words plain in
    is.answers ∙ ap (answer is.outcome) turned
    ∙ none_taken words its.2.0 (ap command_found its.2.1 ∙ its.4) is.outcome (subst (λ ws. Comes is.outcome (fault_of application ws)) turned is.comes)

-- ---- what a parse comes to

-- a parse that ends well, and one that fails for another reason than memory, are readings
pub network_matches : (app : App) (texts words : List (List ℕ)) (sub : Option (List ℕ × List Found)) (read : Option NetworkCommand) → app ≡ application → texts ≡ turned_round words
    → fault_of app texts ≡ [] → sub ≡ subcommand_of app texts → read ≡ network_found sub → IsNetworkReadingOf words read
network_matches app texts words sub read is same none found reads = record {
  outcome = None;
  comes = sym (ap₂ fault_of is same) ∙ none;
  answers = reads ∙ ap network_found (found ∙ ap₂ subcommand_of is same);
}

pub network_fault : (app : App) (texts words : List (List ℕ)) (error : Error) (read : Option NetworkCommand) → app ≡ application → texts ≡ turned_round words
    → HasKind (fault_of app texts) error → kind_of error ≢ ErrorKind.OutOfMemory → read ≡ None → IsNetworkReadingOf words read
network_fault app texts words error read is same (inl memory) other reads = absurd (other memory)
network_fault app texts words error read is same (inr among) other reads = record {
  outcome = Some (kind_of error);
  comes = subst (IsAmong (kind_of error)) (ap₂ fault_of is same) among;
  answers = reads;
}

-- each list of words is read somehow
network_reading_by : (words : List (List ℕ)) (kinds : List ErrorKind) → fault_of application (turned_round words) ≡ kinds → (read : Option NetworkCommand) × IsNetworkReadingOf words read
network_reading_by words [] is = (network_answer None (turned_round words), record { outcome = None; comes = is; answers = refl })
network_reading_by words (kind ∷ more) is = (None, record { outcome = Some kind; comes = subst (IsAmong kind) (sym is) (inl refl); answers = refl })

pub some_network_reading : (words : List (List ℕ)) → (read : Option NetworkCommand) × IsNetworkReadingOf words read
some_network_reading words = network_reading_by words (fault_of application (turned_round words)) refl

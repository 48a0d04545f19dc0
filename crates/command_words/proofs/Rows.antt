-- Words in plain spelling are read as the command that they ask for.
use Rattle.std.proofs.Common.{◌≡◌, ◌≢◌, ◌∙◌, inl, inr, sym, ap, ap₂, subst, refl, arith, ℕ, ◌+◌, ◌-◌, ◌^◌, ◌||◌, cond, Bool, true, false, List, [], ◌∷◌, ◌++◌, map, codes, Option, Some, None, is_some, true≢false, Result, Ok, Err, IfOk, box_value}
use Rattle.std.specs.Prelude.{slice_get}
use Rattle.std.specs.List.{All, fold, slice_index_or}
use Rattle.std.specs.Option.{option_map, option_map_or, unwrap_or}
use Rattle.std.specs.Str.{bytes_eq}
use Rattle.std.proofs.lemmas.List.Elements.{All-cons, All-head, All-nil, All-tail}
use Rattle.clap.proofs.OnLiterals.{clap_on_literals}
use Rattle.clap.specs.Faults.{check_fault, defaults_fault, fault_of, is_simple_and_free, settle_fault}
use Rattle.clap.specs.Kinds.{HasKind, IsAmong, Kinds}
use Rattle.clap.specs.Values.{kind_of}
use Rattle.clap.specs.declared.error.Error.{Error}
use Rattle.clap.specs.Simple.{App, filled, help_rule, is_simple, subcommand_of, subcommand_rows_of}
use Rattle.clap.specs.Matches.{found_of, subcommand_name_of}
use Rattle.clap.specs.Takes.{is_given}
use Rattle.clap.specs.Walk.{Held, Rule, default_rows, has_row, nothing_held, rows_of, settled, with_default}
use Rattle.clap.specs.declared.parser.matches.ArgMatches.{ArgMatches}
use Rattle.clap.specs.declared.parser.matches.ArgMatches.TheViews.{out-ArgMatches, out-SubCommand}
use Rattle.clap.specs.Walk.{Row as Found}
use Rattle.clap.specs.declared.builder.value_parser.Reading.TheVariants.{AsWritten}
use Rattle.clap.specs.declared.error.kind.ErrorKind.{ErrorKind}
use Rattle.command_words.specs.Spelling.{Given, Row, Spells, SpellsWith, dashed, has_option, needed_of, value_of, words_of}
use Rattle.command_words.specs.Meanings.{IsPlain, IsRowOf, archive_name, asks_name, bidder_name, cid_name, commands, first_help_word, from_name, help_word, journal_name, number_of, ratio_name, row_of, seat_name, seed_name, to_name, version_word}
use Rattle.command_words.specs.Taken.{Comes, IsReadingOf, answer, answer_by, application, close_by, command_found, generate, list_archive, print_notices, put_archive, reconcile_with, topic_by, turned_by, turned_round}
use Rattle.command_words.specs.declared.command.Command.{Command}
use Rattle.command_words.specs.declared.command.Topic.{Topic}
use Rattle.command_words.specs.declared.command.TheConstants.{MOST_ASKS}
use Rattle.command_words.proofs.Tables.{each_same, found_one, numbered, numbered_at, one_at}
use Rattle.command_words.proofs.Walks.{Ends, HasFlag, HasOption, both, done_with, ends, flag_first, flag_last, row_for, rule_of_flag, rule_of_option, set_row, unset_added, unset_row}
use Rattle.command_words.proofs.Levels.{HasCommand, IsRead, command_entered, command_passes, first_behind, first_beside, first_found, given_beside, given_found, have_no_defaults, level_passes, no_default, no_more, options_read, or_true, rows_found, same_both}
use Rattle.command_words.proofs.Programs.{complete, named_so, program, row_asked, row_built, row_command, row_word, shape_by}

-- ---- the row with a flag

-- the row of `close`
abbrev pub close_word : List ℕ
close_word = codes "close"

abbrev no_row : Row
no_row = record { word = []; options = []; purpose = [] }

abbrev closing : Row
closing = unwrap_or (row_of close_word) no_row

is_closing : IsRowOf close_word closing
is_closing = refl

closing_of : (row : Row) → IsRowOf close_word row → row ≡ closing
closing_of row is = sym (ap (λ (o : Option Row). unwrap_or o no_row) is)

abbrev closing_rules : List Rule
closing_rules = (shape_by closing).rules

closing_option : HasOption closing_rules journal_name
closing_option = record { needed = true; is_long = refl; is_named = refl; by_long = refl; by_id = refl }

closing_flag : HasFlag closing_rules ratio_name
closing_flag = record { is_long = refl; is_named = refl; by_long = refl }

closing_command : HasCommand program closing.word (shape_by closing)
closing_command = row_command close_word closing is_closing

-- each of its options is the journal
journal_alone : (P : List ℕ → Type 0) (name : List ℕ) → P journal_name → (bytes_eq journal_name name || false) ≡ true → P name
journal_alone P name is same = go (bytes_eq journal_name name) refl same
  where
    go : (b : Bool) → bytes_eq journal_name name ≡ b → (b || false) ≡ true → P name
    go true equal any = named_so P name journal_name equal is
    go false differ any = absurd (true≢false (sym any))

closing_each : (P : List ℕ → Type 0) (given : List Given) → P journal_name → All (λ one. has_option closing one.0 ≡ true) given → All (λ one. P one.0) given
closing_each P given is known = λ k d lt. journal_alone P (slice_index_or given k d).0 is (known k d lt)

-- so none has the flag's name
apart : (given : List Given) → All (λ one. bytes_eq one.0 ratio_name ≡ false) given → has_row ratio_name (map row_for given) ≡ false
apart [] none = refl
apart (one ∷ given) none =
    ap₂ (λ (a b : Bool). a || b) (All-head (λ one. bytes_eq one.0 ratio_name ≡ false) one given none) (apart given (All-tail (λ one. bytes_eq one.0 ratio_name ≡ false) one given none))

no_flag : (given : List Given) → All (λ one. has_option closing one.0 ≡ true) given → has_row ratio_name (map row_for given) ≡ false
no_flag given known = apart given (closing_each (λ name. bytes_eq name ratio_name ≡ false) given refl known)

-- the rules of the journal and of help, which have no defaults
abbrev journal_rule : Rule
journal_rule = rule_of_option journal_name true

abbrev help_flag : Rule
help_flag = filled help_rule

closing_defaults : (rows : List Found) → defaults_fault rows closing_rules ≡ []
unfolding defaults_fault
closing_defaults rows =
    both _ _ (no_default rows journal_rule refl)
    (both _ _ (same_both (has_row ratio_name (with_default rows journal_rule) || false) []) (both _ _ (no_default (with_default (with_default rows journal_rule) (rule_of_flag ratio_name)) help_flag refl) refl))

-- the flag's row is added where there is none, and no other
completed_unset : (rows : List Found) → has_row ratio_name rows ≡ false → fold with_default rows closing_rules ≡ rows ++ unset_row ratio_name ∷ []
completed_unset rows none =
    ap (λ (rs : List Found). with_default (with_default rs (rule_of_flag ratio_name)) help_flag) (no_more rows journal_rule refl)
    ∙ ap (λ (rs : List Found). with_default rs help_flag) (unset_added ratio_name rows none)
    ∙ no_more (rows ++ unset_row ratio_name ∷ []) help_flag refl

completed_set : (rows : List Found) → has_row ratio_name rows ≡ true → fold with_default rows closing_rules ≡ rows
completed_set rows some =
    ap (λ (rs : List Found). with_default (with_default rs (rule_of_flag ratio_name)) help_flag) (no_more rows journal_rule refl)
    ∙ ap (λ (rs : List Found). with_default rs help_flag) (set_stays rows some)
    ∙ no_more rows help_flag refl
  where
    set_stays : (rows : List Found) → has_row ratio_name rows ≡ true → with_default rows (rule_of_flag ratio_name) ≡ rows
    set_stays rows some = ap (λ (b : Bool). cond b rows (default_rows ratio_name AsWritten (codes "false" ∷ []) rows)) some

closing_checked : (rows : List Found) → is_given journal_name rows ≡ true → check_fault (shape_by closing) rows false ≡ []
closing_checked rows some =
    complete closing (row_asked close_word closing is_closing) rows (All-cons (λ name. is_given name rows ≡ true) journal_name [] some (All-nil (λ name. is_given name rows ≡ true)))

-- what a closing finds, by the options and what more
journal_given : (given : List Given) → All (λ name. is_some (value_of name given) ≡ true) (needed_of closing) → is_some (value_of journal_name given) ≡ true
journal_given given complete = All-head (λ name. is_some (value_of name given) ≡ true) journal_name [] complete

has_last : (name : List ℕ) (rows : List Found) (row : Found) → bytes_eq row.id name ≡ true → has_row name (rows ++ row ∷ []) ≡ true
has_last name [] row is = ap (λ (b : Bool). b || false) is
has_last name (one ∷ rows) row is = ap (λ (b : Bool). bytes_eq one.id name || b) (has_last name rows row is) ∙ or_true (bytes_eq one.id name)

module _ (given : List Given) (words : List (List ℕ)) (spells : Spells closing given words) where
  closing_options : All (λ one. HasOption closing_rules one.0) given
  closing_options = closing_each (HasOption closing_rules) given closing_option spells.known

  options_end : (h : Held) → h.skip ≡ 0 → settle_fault closing_rules (shape_by closing).args_override_self h ≡ [] → All (λ one. has_row one.0 (settled closing_rules h).rows ≡ false) given
      → Ends (shape_by closing) h (words_of given) (map row_for given)
  options_end h none pass new = ends (shape_by closing) given h none pass closing_options spells.plain new spells.once

  unset_read : IsRead (shape_by closing) (words_of given) (map row_for given ++ unset_row ratio_name ∷ [])
  unset_read = record {
    found = map row_for given;
    ending = options_end nothing_held refl refl (λ k d lt. refl);
    defaults = closing_defaults (map row_for given);
    completed = completed_unset (map row_for given) (no_flag given spells.known);
    checked = closing_checked (map row_for given ++ unset_row ratio_name ∷ []) (given_beside journal_name given (unset_row ratio_name ∷ []) refl ∙ journal_given given spells.complete);
  }

  first_read : IsRead (shape_by closing) (dashed ratio_name ∷ words_of given) (set_row ratio_name ∷ map row_for given)
  first_read = record {
    found = set_row ratio_name ∷ map row_for given;
    ending = flag_first (shape_by closing) ratio_name closing_flag (words_of given) (map row_for given)
        (options_end (done_with (set_row ratio_name ∷ [])) refl refl (closing_each (λ name. (bytes_eq ratio_name name || false) ≡ false) given refl spells.known));
    defaults = closing_defaults (set_row ratio_name ∷ map row_for given);
    completed = completed_set (set_row ratio_name ∷ map row_for given) refl;
    checked = closing_checked (set_row ratio_name ∷ map row_for given) (given_found journal_name given ∙ journal_given given spells.complete);
  }

  last_read : IsRead (shape_by closing) (words_of given ++ dashed ratio_name ∷ []) (map row_for given ++ set_row ratio_name ∷ [])
  last_read = record {
    found = map row_for given ++ set_row ratio_name ∷ [];
    ending = flag_last (shape_by closing) ratio_name closing_flag (words_of given) (map row_for given) (options_end nothing_held refl refl (λ k d lt. refl)) (no_flag given spells.known);
    defaults = closing_defaults (map row_for given ++ set_row ratio_name ∷ []);
    completed = completed_set (map row_for given ++ set_row ratio_name ∷ []) (has_last ratio_name (map row_for given) (set_row ratio_name) refl);
    checked = closing_checked (map row_for given ++ set_row ratio_name ∷ []) (given_beside journal_name given (set_row ratio_name ∷ []) refl ∙ journal_given given spells.complete);
  }

-- ---- words in plain spelling

abbrev pub Takes : List ℕ → List Found → List (List ℕ) → Type 0
Takes word rows words = (fault_of application words ≡ []) × (subcommand_of application words ≡ Some (word, rows))

-- words that are read behind a command's are taken
takes_words : (row : Row) (words : List (List ℕ)) (rows : List Found) → HasCommand program row.word (shape_by row) → (shape_by row).name ≡ row.word → IsRead (shape_by row) words rows
    → Takes row.word rows (row.word ∷ words)
takes_words row words rows command name read =
    let s = shape_by row in (
      command_passes program row.word s command words (level_passes s words rows read),
      command_entered program row.word s command words
          ∙ ap₂ (λ (word : List ℕ) (found : List Found). Some (word, found)) name (rows_found s words rows read),
    )

-- what is asked of a row that has no flag
abbrev pub has_no_flag : Row → Bool
has_no_flag row = have_no_defaults (shape_by row).rules

-- a command in plain spelling is taken, with its options
pub takes : (word : List ℕ) (row : Row) (given : List Given) (words : List (List ℕ)) → IsRowOf word row → has_no_flag row ≡ true → Spells row given words → Takes row.word (map row_for given) words
takes word row given words is plain spells =
    let built = row_built word row is in
    let s = shape_by row in
    let read : IsRead s (words_of given) (map row_for given) =
    options_read s given plain (λ k d lt. built.options (slice_index_or given k d).0 (spells.known k d lt)) spells.once spells.plain (built.checked given spells.complete) in
    subst (Takes row.word (map row_for given)) (sym spells.are) (takes_words row (words_of given) (map row_for given) built.command built.name read)

-- what an answer by no fault is
taken : (command : Command) (words : List (List ℕ)) → fault_of application words ≡ [] → command_found (subcommand_of application words) ≡ Some command
    → (outcome : Option ErrorKind) → Comes outcome (fault_of application words) → answer outcome words ≡ Some command
taken command words none is None comes = is
taken command words none is (Some kind) comes = absurd (subst (Comes (Some kind)) none comes)

-- what an answer by one kind of fault is
asked : (command : Command) (words : List (List ℕ)) (kind : ErrorKind) → fault_of application words ≡ kind ∷ [] → answer (Some kind) words ≡ Some command
    → (outcome : Option ErrorKind) → Comes outcome (fault_of application words) → answer outcome words ≡ Some command
asked command words kind one is None comes = absurd (cc (sym one ∙ comes))
asked command words kind one is (Some other) comes = elim (subst (Comes (Some other)) one comes) [
  | inl same ↦ ap (λ k. answer (Some k) words) same ∙ is
  | inr none ↦ absurd none
]

-- the help on the program, and on each command
program_help_asked : fault_of application (help_word ∷ []) ≡ ErrorKind.DisplayHelp ∷ []
unfolding clap_on_literals
program_help_asked = refl

all_helps : map (λ (row : Row). fault_of application (row.word ∷ help_word ∷ [])) commands ≡ map (λ (row : Row). ErrorKind.DisplayHelp ∷ []) commands
unfolding clap_on_literals
all_helps = refl

command_help_asked : (place : ℕ) (row : Row) → slice_get commands place ≡ Some row → fault_of application (row.word ∷ help_word ∷ []) ≡ ErrorKind.DisplayHelp ∷ []
command_help_asked place row is =
    one_at (λ (r : Row). fault_of application (r.word ∷ help_word ∷ []) ≡ ErrorKind.DisplayHelp ∷ []) commands place row
    (each_same (λ (r : Row). fault_of application (r.word ∷ help_word ∷ [])) (λ (r : Row). ErrorKind.DisplayHelp ∷ []) commands all_helps) is

-- each command's word names its place
all_topics : map (λ (row : Row). topic_by row.word) commands ≡ numbered 0 commands
all_topics = refl

topic_at : (place : ℕ) (row : Row) → slice_get commands place ≡ Some row → topic_by row.word ≡ Topic.Command place
topic_at place row is = numbered_at (λ (r : Row). topic_by r.word) 0 commands place row all_topics is ∙ ap (λ n. Topic.Command n) (from_none place)
  where
    from_none : (n : ℕ) → 0 + n ≡ n
    from_none n = omega arith

-- none of them is `help`
all_other : map (λ (row : Row). bytes_eq row.word first_help_word) commands ≡ map (λ (row : Row). false) commands
all_other = refl

other_at : (place : ℕ) (row : Row) → slice_get commands place ≡ Some row → bytes_eq row.word first_help_word ≡ false
other_at place row is =
    one_at (λ (r : Row). bytes_eq r.word first_help_word ≡ false) commands place row (each_same (λ (r : Row). bytes_eq r.word first_help_word) (λ (r : Row). false) commands all_other) is

pub other_word : (word : List ℕ) (row : Row) → IsRowOf word row → bytes_eq row.word first_help_word ≡ false
other_word word row is =
    found_one (λ (r : Row). bytes_eq r.word first_help_word ≡ false) (λ (r : Row). bytes_eq r.word word) commands row
    (each_same (λ (r : Row). bytes_eq r.word first_help_word) (λ (r : Row). false) commands all_other) is

version_asked : fault_of application (version_word ∷ []) ≡ ErrorKind.DisplayVersion ∷ []
unfolding clap_on_literals
version_asked = refl

-- what words ask for that stand as `clap` takes them
abbrev IsHelpTaken : Topic → List (List ℕ) → Type 0
IsHelpTaken Topic.Program words = words ≡ help_word ∷ []
IsHelpTaken (Topic.Command place) words = (row : Row) × (slice_get commands place ≡ Some row) × (words ≡ row.word ∷ help_word ∷ [])

abbrev IsTaken : Command → List (List ℕ) → Type 0
IsTaken (Command.Help topic) words = IsHelpTaken topic words
IsTaken command words = IsPlain command words

-- the flag before the journal, or after it
closed_with : (journal : List ℕ) (words : List (List ℕ)) (given : List Given) → SpellsWith closing ratio_name given words → value_of journal_name given ≡ Some journal
    → (outcome : Option ErrorKind) → Comes outcome (fault_of application words) → answer outcome words ≡ Some (Command.Close journal true)
closed_with journal words given spells is = elim spells.are [
  | inl first ↦
      let its : Spells closing given (closing.word ∷ words_of given) = spells.without in
      let rows = set_row ratio_name ∷ map row_for given in
      let taken_so : Takes closing.word rows words =
      subst (Takes closing.word rows) (sym first) (takes_words closing (dashed ratio_name ∷ words_of given) rows closing_command refl (first_read given (closing.word ∷ words_of given) its)) in
      taken (Command.Close journal true) words taken_so.0 (ap command_found taken_so.1 ∙ ap (λ (j : Option (List ℕ)). close_by j true) (first_found journal_name given ∙ is))
  | inr last ↦
      let its : Spells closing given (closing.word ∷ words_of given) = spells.without in
      let rows = map row_for given ++ set_row ratio_name ∷ [] in
      let taken_so : Takes closing.word rows words =
      subst (Takes closing.word rows) (sym last) (takes_words closing (words_of given ++ dashed ratio_name ∷ []) rows closing_command refl (last_read given (closing.word ∷ words_of given) its)) in
      taken (Command.Close journal true) words taken_so.0
      (ap command_found taken_so.1
      ∙ ap₂ close_by (first_beside journal_name given (set_row ratio_name ∷ []) refl ∙ is)
      (ap (λ (text : Option (List ℕ)). option_map_or (λ t. bytes_eq t (codes "true")) text false) (first_behind ratio_name (map row_for given) (set_row ratio_name ∷ []) (no_flag given its.known))))
]

-- what is found of a row is found by its word
word_is : (word : List ℕ) (row : Row) → IsRowOf word row → (given : List Given) → ◌≡◌ {A = Option (List ℕ × List Found)} (Some (row.word, map row_for given)) (Some (word, map row_for given))
word_is word row is given = ap (λ (w : List ℕ). Some (w, map row_for given)) (row_word word row is)

-- the same texts ask for the same days
pub same_five : (a s c f t archive seat cid first last : Option (List ℕ)) → a ≡ archive → s ≡ seat → c ≡ cid → f ≡ first → t ≡ last
    → list_archive a s c f t ≡ list_archive archive seat cid first last
same_five a s c f t archive seat cid first last ea es ec ef et =
    ap (λ x. list_archive x s c f t) ea ∙ ap (λ x. list_archive archive x c f t) es ∙ ap (λ x. list_archive archive seat x f t) ec
    ∙ ap (λ x. list_archive archive seat cid x t) ef ∙ ap (λ x. list_archive archive seat cid first x) et

-- words in plain spelling are read as what they ask for
pub plain_read : (command : Command) (words : List (List ℕ)) → IsTaken command words → (outcome : Option ErrorKind) → Comes outcome (fault_of application words) → answer outcome words ≡ Some command
plain_read (Command.Day journal) words (row, given, spells, is) =
    let its = takes (codes "day") row given words is.0 (sym (ap (λ (o : Option Row). has_no_flag (unwrap_or o row)) is.0)) spells in
    taken (Command.Day journal) words its.0
    (ap command_found (its.1 ∙ word_is (codes "day") row is.0 given) ∙ ap (λ j. Some (Command.Day j)) (first_found journal_name given ∙ is.1))
plain_read (Command.Connection journal) words (row, given, spells, is) =
    let its = takes (codes "conn") row given words is.0 (sym (ap (λ (o : Option Row). has_no_flag (unwrap_or o row)) is.0)) spells in
    taken (Command.Connection journal) words its.0
    (ap command_found (its.1 ∙ word_is (codes "conn") row is.0 given) ∙ ap (λ j. Some (Command.Connection j)) (first_found journal_name given ∙ is.1))
plain_read (Command.Notices journal) words (row, given, spells, is) =
    let its = takes (codes "notices") row given words is.0 (sym (ap (λ (o : Option Row). has_no_flag (unwrap_or o row)) is.0)) spells in
    taken (Command.Notices journal) words its.0
    (ap command_found (its.1 ∙ word_is (codes "notices") row is.0 given) ∙ ap print_notices (first_found journal_name given ∙ is.1))
plain_read Command.Bidder words (row, given, spells, is) =
    let its = takes (codes "bidder") row given words is (sym (ap (λ (o : Option Row). has_no_flag (unwrap_or o row)) is)) spells in
    taken Command.Bidder words its.0 (ap command_found (its.1 ∙ word_is (codes "bidder") row is given))
plain_read (Command.Generate seed asks) words (row, given, spells, is) =
    let its = takes (codes "gen") row given words is.0 (sym (ap (λ (o : Option Row). has_no_flag (unwrap_or o row)) is.0)) spells in
    taken (Command.Generate seed asks) words its.0
    (ap command_found (its.1 ∙ word_is (codes "gen") row is.0 given)
    ∙ ap₂ generate (ap (number_of (2 ^ 64 - 1)) (first_found seed_name given) ∙ is.1) (ap (number_of MOST_ASKS) (first_found asks_name given) ∙ is.2))
plain_read (Command.Close journal false) words (row, given, spells, is) =
    let its : Spells closing given words = subst (λ (r : Row). Spells r given words) (closing_of row is.0) spells in
    let rows = map row_for given ++ unset_row ratio_name ∷ [] in
    let taken_so : Takes closing.word rows words =
    subst (Takes closing.word rows) (sym its.are) (takes_words closing (words_of given) rows closing_command refl (unset_read given words its)) in
    taken (Command.Close journal false) words taken_so.0
    (ap command_found taken_so.1
    ∙ ap₂ close_by (first_beside journal_name given (unset_row ratio_name ∷ []) refl ∙ is.1)
    (ap (λ (text : Option (List ℕ)). option_map_or (λ t. bytes_eq t (codes "true")) text false) (first_behind ratio_name (map row_for given) (unset_row ratio_name ∷ []) (no_flag given its.known))))
plain_read (Command.Close journal true) words (row, given, spells, is) =
    closed_with journal words given (subst (λ (r : Row). SpellsWith r ratio_name given words) (closing_of row is.0) spells) is.1
plain_read Command.Check words (row, given, spells, is) =
    let its = takes (codes "check") row given words is (sym (ap (λ (o : Option Row). has_no_flag (unwrap_or o row)) is)) spells in
    taken Command.Check words its.0 (ap command_found (its.1 ∙ word_is (codes "check") row is given))
plain_read (Command.ArchivePut archive) words (row, given, spells, is) =
    let its = takes (codes "archive-put") row given words is.0 (sym (ap (λ (o : Option Row). has_no_flag (unwrap_or o row)) is.0)) spells in
    taken (Command.ArchivePut archive) words its.0
    (ap command_found (its.1 ∙ word_is (codes "archive-put") row is.0 given) ∙ ap put_archive (first_found archive_name given ∙ is.1))
plain_read (Command.ArchiveList archive seat cid first last) words (row, given, spells, is) =
    let its = takes (codes "archive-list") row given words is.0 (sym (ap (λ (o : Option Row). has_no_flag (unwrap_or o row)) is.0)) spells in
    taken (Command.ArchiveList archive seat cid first last) words its.0
    (ap command_found (its.1 ∙ word_is (codes "archive-list") row is.0 given)
    ∙ same_five _ _ _ _ _ (Some archive) (Some seat) (Some cid) (Some first) (Some last) (first_found archive_name given ∙ is.1) (first_found seat_name given ∙ is.2) (first_found cid_name given ∙ is.3)
    (first_found from_name given ∙ is.4) (first_found to_name given ∙ is.5))
plain_read (Command.Reconcile journal name) words (row, given, spells, is) =
    let its = takes (codes "reconcile") row given words is.0 (sym (ap (λ (o : Option Row). has_no_flag (unwrap_or o row)) is.0)) spells in
    taken (Command.Reconcile journal name) words its.0
    (ap command_found (its.1 ∙ word_is (codes "reconcile") row is.0 given)
    ∙ ap₂ reconcile_with (first_found journal_name given ∙ is.1) (first_found bidder_name given ∙ is.2))
plain_read (Command.Help Topic.Program) words is =
    asked (Command.Help Topic.Program) words ErrorKind.DisplayHelp (ap (fault_of application) is ∙ program_help_asked) (ap (answer (Some ErrorKind.DisplayHelp)) is)
plain_read (Command.Help (Topic.Command place)) words (row, at, is) =
    asked (Command.Help (Topic.Command place)) words ErrorKind.DisplayHelp (ap (fault_of application) is ∙ command_help_asked place row at)
    (ap (answer (Some ErrorKind.DisplayHelp)) is ∙ ap (λ (topic : Topic). Some (Command.Help topic)) (topic_at place row at))
plain_read Command.Version words is = asked Command.Version words ErrorKind.DisplayVersion (ap (fault_of application) is ∙ version_asked) (ap (answer (Some ErrorKind.DisplayVersion)) is)

-- words that begin with another word than `help` stand as `clap` takes them
pub stays : (row : Row) (given : List Given) (words : List (List ℕ)) → bytes_eq row.word first_help_word ≡ false → Spells row given words → turned_round words ≡ words
stays row given words other spells = ap turned_round spells.are ∙ ap (λ b. turned_by b row.word (words_of given)) other ∙ sym spells.are

begun_by : (word : List ℕ) (rest words : List (List ℕ)) → bytes_eq word first_help_word ≡ false → words ≡ word ∷ rest → turned_round words ≡ words
begun_by word rest words other is = ap turned_round is ∙ ap (λ b. turned_by b word rest) other ∙ sym is

stays_with : (row : Row) (given : List Given) (words : List (List ℕ)) → bytes_eq row.word first_help_word ≡ false → SpellsWith row ratio_name given words → turned_round words ≡ words
stays_with row given words other spells = elim spells.are [
  | inl first ↦ begun_by row.word (dashed ratio_name ∷ words_of given) words other first
  | inr last ↦ begun_by row.word (words_of given ++ dashed ratio_name ∷ []) words other last
]

pub plain_turned : (command : Command) (words : List (List ℕ)) → IsPlain command words → IsTaken command (turned_round words)
plain_turned (Command.Day journal) words (row, given, spells, is) =
    subst (IsTaken (Command.Day journal)) (sym (stays row given words (other_word (codes "day") row is.0) spells)) (row, given, spells, is)
plain_turned (Command.Connection journal) words (row, given, spells, is) =
    subst (IsTaken (Command.Connection journal)) (sym (stays row given words (other_word (codes "conn") row is.0) spells)) (row, given, spells, is)
plain_turned (Command.Notices journal) words (row, given, spells, is) =
    subst (IsTaken (Command.Notices journal)) (sym (stays row given words (other_word (codes "notices") row is.0) spells)) (row, given, spells, is)
plain_turned Command.Bidder words (row, given, spells, is) =
    subst (IsTaken Command.Bidder) (sym (stays row given words (other_word (codes "bidder") row is) spells)) (row, given, spells, is)
plain_turned (Command.Generate seed asks) words (row, given, spells, is) =
    subst (IsTaken (Command.Generate seed asks)) (sym (stays row given words (other_word (codes "gen") row is.0) spells)) (row, given, spells, is)
plain_turned (Command.Close journal false) words (row, given, spells, is) =
    subst (IsTaken (Command.Close journal false)) (sym (stays row given words (other_word (codes "close") row is.0) spells)) (row, given, spells, is)
plain_turned (Command.Close journal true) words (row, given, spells, is) =
    subst (IsTaken (Command.Close journal true)) (sym (stays_with row given words (other_word (codes "close") row is.0) spells)) (row, given, spells, is)
plain_turned Command.Check words (row, given, spells, is) =
    subst (IsTaken Command.Check) (sym (stays row given words (other_word (codes "check") row is) spells)) (row, given, spells, is)
plain_turned (Command.ArchivePut archive) words (row, given, spells, is) =
    subst (IsTaken (Command.ArchivePut archive)) (sym (stays row given words (other_word (codes "archive-put") row is.0) spells)) (row, given, spells, is)
plain_turned (Command.ArchiveList archive seat cid first last) words (row, given, spells, is) =
    subst (IsTaken (Command.ArchiveList archive seat cid first last)) (sym (stays row given words (other_word (codes "archive-list") row is.0) spells)) (row, given, spells, is)
plain_turned (Command.Reconcile journal name) words (row, given, spells, is) =
    subst (IsTaken (Command.Reconcile journal name)) (sym (stays row given words (other_word (codes "reconcile") row is.0) spells)) (row, given, spells, is)
plain_turned (Command.Help Topic.Program) words (inl behind) = ap turned_round behind
plain_turned (Command.Help Topic.Program) words (inr (inl first)) = ap turned_round first
plain_turned (Command.Help Topic.Program) words (inr (inr twice)) = ap turned_round twice
plain_turned (Command.Help (Topic.Command place)) words (row, at, inl behind) =
    (row, at, ap turned_round behind ∙ ap (λ (b : Bool). turned_by b row.word (help_word ∷ [])) (other_at place row at))
plain_turned (Command.Help (Topic.Command place)) words (row, at, inr first) =
    (row, at, ap turned_round first ∙ ap (λ (b : Bool). cond b [] (row.word ∷ []) ++ help_word ∷ []) (other_at place row at))
plain_turned Command.Version words is = ap turned_round is

-- clap's definitions say what a parse of the program comes to
pub program_is_simple : is_simple_and_free application ≡ true
program_is_simple = refl

pub program_has_matches : is_simple application ≡ true
program_has_matches = refl

-- ---- the clause

pub plain_only : (words : List (List ℕ)) (read : Option Command) → IsReadingOf words read → (command : Command) → IsPlain command words → read ≡ Some command
plain_only words read is command plain = is.answers ∙ plain_read command (turned_round words) (plain_turned command words plain) is.outcome is.comes

-- a parse that ends well, and one that fails for another reason than memory, are readings
pub reads_matches : (app : App) (texts words : List (List ℕ)) (sub : Option (List ℕ × List Found)) (read : Option Command) → app ≡ application → texts ≡ turned_round words
    → fault_of app texts ≡ [] → sub ≡ subcommand_of app texts → read ≡ command_found sub → IsReadingOf words read
reads_matches app texts words sub read is same none found reads = record {
  outcome = None;
  comes = sym (ap₂ fault_of is same) ∙ none;
  answers = reads ∙ ap command_found (found ∙ ap₂ subcommand_of is same);
}

pub reads_fault : (app : App) (texts words : List (List ℕ)) (error : Error) (read : Option Command) → app ≡ application → texts ≡ turned_round words
    → HasKind (fault_of app texts) error → kind_of error ≢ ErrorKind.OutOfMemory → read ≡ answer_by (kind_of error) (turned_round words) → IsReadingOf words read
reads_fault app texts words error read is same (inl memory) other reads = absurd (other memory)
reads_fault app texts words error read is same (inr among) other reads = record {
  outcome = Some (kind_of error);
  comes = subst (IsAmong (kind_of error)) (ap₂ fault_of is same) among;
  answers = reads;
}

-- the subcommand that a parse met, by its word and its rows
abbrev paired : {X A B : Type 0} → (X → A) → (X → B) → X → A × B
paired f g x = (f x, g x)

abbrev second : {A B : Type 0} → A × B → B
second p = p.1

some_both : {X A B : Type 0} (o : Option X) (f : X → A) (g : X → B) (a : A) (b : B) → Some a ≡ option_map f o → Some b ≡ option_map second (option_map (paired f g) o) → option_map (paired f g) o ≡ Some (a, b)
some_both None f g a b is_a is_b = absurd (cc is_a)
some_both {X} {A} {B} (Some x) f g a b is_a is_b =
    let pair : A → B → Option (A × B) = λ c d. Some (c, d) in
    ap₂ pair (ap (λ (o : Option A). unwrap_or o a) (sym is_a)) (ap (λ (o : Option B). unwrap_or o b) (sym is_b))

pub met : (m : ArgMatches) (word : List ℕ) (rows : List Found) → Some word ≡ subcommand_name_of m → Some rows ≡ option_map (λ (p : List ℕ × List Found). p.1) (subcommand_rows_of m) → subcommand_rows_of m ≡ Some (word, rows)
met m word rows named found =
    some_both (out-ArgMatches m).subcommand (λ b. (out-SubCommand (box_value b)).name.now) (λ b. rows_of (found_of (out-SubCommand (box_value b)).matches)) word rows named found

pub both_ok : {X E : Type 0} (r : Result X E) (P Q R : X → Type 0) → ((x : X) → P x → Q x → R x) → IfOk r P → IfOk r Q → IfOk r R
both_ok (Ok x) P Q R f p q = f x p q
both_ok (Err e) P Q R f p q = tt

-- each list of words is read somehow
reading_by : (words : List (List ℕ)) (kinds : Kinds) → fault_of application (turned_round words) ≡ kinds → (read : Option Command) × IsReadingOf words read
reading_by words [] is = (answer None (turned_round words), record { outcome = None; comes = is; answers = refl })
reading_by words (kind ∷ more) is = (answer (Some kind) (turned_round words), record { outcome = Some kind; comes = subst (IsAmong kind) (sym is) (inl refl); answers = refl })

pub some_reading : (words : List (List ℕ)) → (read : Option Command) × IsReadingOf words read
some_reading words = reading_by words (fault_of application (turned_round words)) refl

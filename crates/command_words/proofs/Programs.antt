-- The program as it is built, and what holds of each row of it.
use Rattle.std.proofs.Common.{◌≡◌, ◌∙◌, sym, ap, subst, refl, ℕ, ◌&&◌, ◌||◌, cond, Bool, true, false, not, List, [], ◌∷◌, map, Option, Some, None, is_some, filter_map}
use Rattle.std.specs.List.{All, cons_option, find, list_any}
use Rattle.std.specs.Option.{unwrap_or}
use Rattle.std.specs.Str.{bytes_eq}
use Rattle.std.proofs.lemmas.List.Elements.{All-head, All-tail}
use Rattle.std.proofs.lemmas.Slice.Eq.{bytes_eq-Decides}
use Rattle.clap.proofs.OnLiterals.{clap_on_literals}
use Rattle.clap.specs.Facts.{explicit_source}
use Rattle.clap.specs.Faults.{check_fault, defaults_fault, turn_fault}
use Rattle.clap.specs.Kinds.{Kinds, check_kinds, or_else}
use Rattle.clap.specs.Lexer.{long_of}
use Rattle.clap.specs.Simple.{App, Shape, built, built_leaf, inherited, label_of, names_of}
use Rattle.clap.specs.Takes.{is_given}
use Rattle.clap.specs.Walk.{Rule, Walk, answers_to, arg_by_id, arg_by_long, finished, nothing_held, walk_from, walked}
use Rattle.clap.specs.Walk.{Row as Found}
use Rattle.command_words.specs.Spelling.{Choice, Given, Row, dashed, has_option, needed_of, value_of, valued_of}
use Rattle.command_words.specs.Meanings.{IsRowOf, commands}
use Rattle.command_words.specs.Taken.{application, subcommand_for}
use Rattle.command_words.proofs.Tables.{each_same, found_one, option_named}
use Rattle.command_words.proofs.Walks.{HasOption, row_for, rule_of_option}
use Rattle.command_words.proofs.Levels.{HasCommand, given_found, stopped_at}

-- the program as it is built, and one of its commands
abbrev pub program : App
program = built application

abbrev pub shape_by : Row → Shape
shape_by row = built_leaf (inherited program.top (subcommand_for row).top)

-- what holds of each row of the program; the defaults, of a row without a flag
pub record IsBuilt (row : Row) : Type 0 where
  pub command : HasCommand program row.word (shape_by row)
  pub options : (name : List ℕ) → has_option row name ≡ true → HasOption (shape_by row).rules name
  pub checked : (given : List Given) → All (λ name. is_some (value_of name given) ≡ true) (needed_of row) → check_fault (shape_by row) (map row_for given) false ≡ []
  pub name : (shape_by row).name ≡ row.word

-- ---- the command's word

abbrev Met : Type 0
Met = Walk × Kinds × Option Shape × Kinds

abbrev met : Row → Met
met row = (
  walked program.top.rules (names_of program) (walk_from nothing_held) row.word,
  turn_fault program.top (names_of program) (walk_from nothing_held) row.word,
  find (λ sub. answers_to row.word (label_of sub)) program.subs,
  or_else (defaults_fault [] program.top.rules) (check_fault program.top (finished program.top.rules nothing_held) true),
)

abbrev met_so : Row → Met
met_so row = (stopped_at row.word [], [], Some (shape_by row), [])

all_met : ◌≡◌ {A = List Met} (map met commands) (map met_so commands)
unfolding clap_on_literals
all_met = refl

command_met : (row : Row) → ◌≡◌ {A = Met} (met row) (met_so row) → HasCommand program row.word (shape_by row)
command_met row is = record {
  stops = ap (λ (m : Met). m.0) is;
  turns = ap (λ (m : Met). m.1) is;
  found = ap (λ (m : Met). m.2) is;
  checked = ap (λ (m : Met). m.3) is;
}

-- ---- its options

abbrev Sought : Type 0
Sought = Option (List ℕ × Option (List ℕ)) × Bool × Option Rule × Option Rule

abbrev sought : Row → Choice → Sought
sought row choice =
    (long_of (dashed choice.name), bytes_eq (dashed choice.name) (45 ∷ 45 ∷ []), arg_by_long (shape_by row).rules choice.name, arg_by_id (shape_by row).rules choice.name)

abbrev sought_so : Choice → Sought
sought_so choice = (Some (choice.name, None), false, Some (rule_of_option choice.name choice.needed), Some (rule_of_option choice.name choice.needed))

all_sought : ◌≡◌ {A = List (List Sought)} (map (λ row. map (sought row) (valued_of row)) commands) (map (λ row. map sought_so (valued_of row)) commands)
all_sought = refl

options_sought : (row : Row) → ◌≡◌ {A = List Sought} (map (sought row) (valued_of row)) (map sought_so (valued_of row)) → All (λ choice. HasOption (shape_by row).rules choice.name) (valued_of row)
options_sought row same = λ k d lt.
    let is = each_same (sought row) sought_so (valued_of row) same k d lt in
    record {
      needed = _;
      is_long = ap (λ (s : Sought). s.0) is;
      is_named = ap (λ (s : Sought). s.1) is;
      by_long = ap (λ (s : Sought). s.2) is;
      by_id = ap (λ (s : Sought). s.3) is;
    }

-- ---- what it needs

abbrev pub needs : List Rule → List (List ℕ)
needs rules = filter_map (λ (a : Rule). cond a.required (Some a.id) None) rules

abbrev Asked : Type 0
Asked = Bool × Bool × Bool × List (List ℕ) × List ℕ

abbrev asked : Row → Asked
asked row =
    let s = shape_by row in
    (s.arg_required_else_help, s.subcommand_required, s.subcommand_negates_reqs, needs s.rules, s.name)

abbrev asked_so : Row → Asked
asked_so row = (false, false, false, needed_of row, row.word)

all_asked : ◌≡◌ {A = List Asked} (map asked commands) (map asked_so commands)
all_asked = refl

-- a rule that is needed and isn't given is one of those that are needed
lacking_needs : (rules : List Rule) (rows : List Found) → list_any (λ (a : Rule). a.required && not (is_given a.id rows)) rules ≡ list_any (λ id. not (is_given id rows)) (needs rules)
lacking_needs [] rows = refl
lacking_needs (a ∷ rules) rows = go a.required (lacking_needs rules rows)
  where
    go : (b : Bool) → list_any (λ (a : Rule). a.required && not (is_given a.id rows)) rules ≡ list_any (λ id. not (is_given id rows)) (needs rules)
        → ((b && not (is_given a.id rows)) || list_any (λ (a : Rule). a.required && not (is_given a.id rows)) rules)
        ≡ list_any (λ id. not (is_given id rows)) (cons_option (cond b (Some a.id) None) (needs rules))
    go true same = ap (λ (b : Bool). not (is_given a.id rows) || b) same
    go false same = same

none_lacking : (names : List (List ℕ)) (rows : List Found) → All (λ name. is_given name rows ≡ true) names → list_any (λ id. not (is_given id rows)) names ≡ false
none_lacking [] rows all = refl
none_lacking (name ∷ names) rows all =
    ap (λ (b : Bool). not b || list_any (λ id. not (is_given id rows)) names) (All-head (λ n. is_given n rows ≡ true) name names all)
    ∙ none_lacking names rows (All-tail (λ n. is_given n rows ≡ true) name names all)

-- rows in which each needed option is given are complete
pub complete : (row : Row) → ◌≡◌ {A = Asked} (asked row) (asked_so row) → (rows : List Found) → All (λ name. is_given name rows ≡ true) (needed_of row) → check_fault (shape_by row) rows false ≡ []
complete row is rows all =
    let s = shape_by row in
    ap (λ (b : Bool). check_kinds (true && (b && not (list_any (λ (r : Found). explicit_source r.source) rows))) (true && s.subcommand_required)
    (not (s.subcommand_negates_reqs && false) && list_any (λ (a : Rule). a.required && not (is_given a.id rows)) s.rules)) (ap (λ (m : Asked). m.0) is)
    ∙ ap (λ (b : Bool). check_kinds false (true && b) (not (s.subcommand_negates_reqs && false) && list_any (λ (a : Rule). a.required && not (is_given a.id rows)) s.rules)) (ap (λ (m : Asked). m.1) is)
    ∙ ap (λ (b : Bool). check_kinds false false (not (b && false) && list_any (λ (a : Rule). a.required && not (is_given a.id rows)) s.rules)) (ap (λ (m : Asked). m.2) is)
    ∙ ap (check_kinds false false) (lacking_needs s.rules rows ∙ ap (list_any (λ id. not (is_given id rows))) (ap (λ (m : Asked). m.3) is) ∙ none_lacking (needed_of row) rows all)

pub given_all : (names : List (List ℕ)) (given : List Given) → All (λ name. is_some (value_of name given) ≡ true) names → All (λ name. is_given name (map row_for given) ≡ true) names
given_all names given all = λ k d lt. given_found _ given ∙ all k d lt

-- ---- the row of a command

pub row_asked : (word : List ℕ) (row : Row) → IsRowOf word row → ◌≡◌ {A = Asked} (asked row) (asked_so row)
row_asked word row is = found_one (λ (r : Row). ◌≡◌ {A = Asked} (asked r) (asked_so r)) (λ (r : Row). bytes_eq r.word word) commands row (each_same asked asked_so commands all_asked) is

pub row_command : (word : List ℕ) (row : Row) → IsRowOf word row → HasCommand program row.word (shape_by row)
row_command word row is =
    command_met row (found_one (λ (r : Row). ◌≡◌ {A = Met} (met r) (met_so r)) (λ (r : Row). bytes_eq r.word word) commands row (each_same met met_so commands all_met) is)

pub row_options : (word : List ℕ) (row : Row) → IsRowOf word row → All (λ choice. HasOption (shape_by row).rules choice.name) (valued_of row)
row_options word row is =
    options_sought row
    (found_one (λ (r : Row). ◌≡◌ {A = List Sought} (map (sought r) (valued_of r)) (map sought_so (valued_of r))) (λ (r : Row). bytes_eq r.word word) commands row
    (each_same (λ (r : Row). map (sought r) (valued_of r)) (λ (r : Row). map sought_so (valued_of r)) commands all_sought) is)

-- a name that is another's
pub named_so : (P : List ℕ → Type 0) (name other : List ℕ) → bytes_eq other name ≡ true → P other → P name
named_so P name other same here = subst P ((bytes_eq-Decides other name).0 same) here

-- each row of the table is built so
pub row_built : (word : List ℕ) (row : Row) → IsRowOf word row → IsBuilt row
row_built word row is = record {
  command = row_command word row is;
  options = λ name has. option_named (λ n. HasOption (shape_by row).rules n) name (valued_of row) (named_so (λ n. HasOption (shape_by row).rules n)) (row_options word row is) has;
  checked = λ given all. complete row (row_asked word row is) (map row_for given) (given_all (needed_of row) given all);
  name = ap (λ (m : Asked). m.4) (row_asked word row is);
}

-- and has that word
pub row_word : (word : List ℕ) (row : Row) → IsRowOf word row → row.word ≡ word
row_word word row is = found_word commands is
  where
    found_word : (rows : List Row) → find (λ (r : Row). bytes_eq r.word word) rows ≡ Some row → row.word ≡ word
    found_word [] found = absurd (cc found)
    found_word (one ∷ rows) found = go (bytes_eq one.word word) refl found (found_word rows)
      where
        go : (b : Bool) → bytes_eq one.word word ≡ b → cond b (Some one) (find (λ (r : Row). bytes_eq r.word word) rows) ≡ Some row
            → (find (λ (r : Row). bytes_eq r.word word) rows ≡ Some row → row.word ≡ word) → row.word ≡ word
        go true same here later = sym (ap (λ (o : Option Row). (unwrap_or o one).word) here) ∙ (bytes_eq-Decides one.word word).0 same
        go false differ here later = later here

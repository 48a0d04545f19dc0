-- Options and flags in plain spelling behind a command's word: the parse has no fault, and finds each option with its value.
use Rattle.std.proofs.Common.{◌≡◌, ◌∙◌, sym, ap, refl, ◌&&◌, ◌||◌, cond, Bool, true, false, List, [], ◌∷◌, ◌++◌, map, Option, Some, None, is_some, option_and_then, append-nil, true≢false, arith}
use Rattle.std.specs.List.{All, IsDistinct, find, fold, list_all}
use Rattle.std.specs.Option.{option_map, option_map_or}
use Rattle.std.specs.Prelude.{slice_get}
use Rattle.std.specs.Str.{bytes_eq}
use Rattle.std.proofs.lemmas.Bool.Decides.{nat_tests}
use Rattle.clap.specs.Faults.{built_fault, check_fault, default_fault, defaults_fault, entered_fault, given_default_fault, level_fault, settle_fault, turn_fault, walk_fault}
use Rattle.clap.specs.Kinds.{Kinds, or_else}
use Rattle.clap.specs.Simple.{App, Shape, entered, label_of, names_of, rows_at}
use Rattle.clap.specs.Takes.{is_given}
use Rattle.clap.specs.Facts.{explicit_source}
use Rattle.clap.specs.Walk.{Held, Row, Rule, Text, Walk, answers_to, default_rows, finished, reading_by, first_of, has_row, is_empty, nothing_held, rows_after, settled, stop_after, walk, walk_from, walked, with_default}
use Rattle.clap.proofs.WalkLemmas.{walk_stopped}
use Rattle.command_words.specs.Spelling.{Given, begins_with_dash, value_of, words_of}
use Rattle.command_words.proofs.Walks.{Ends, HasOption, both, ends, row_for}

-- ---- behind the walk

-- no option has a value where it isn't given
abbrev pub have_no_defaults : List Rule → Bool
have_no_defaults rules = list_all (λ a. is_empty a.defaults) rules

pub or_true : (b : Bool) → (b || true) ≡ true
or_true true = refl
or_true false = refl

pub same_both : {X : Type 0} (b : Bool) (x : X) → cond b x x ≡ x
same_both true x = refl
same_both false x = refl

is_nil : (xs : List Text) → is_empty xs ≡ true → xs ≡ []
is_nil [] none = refl
is_nil (x ∷ xs) none = absurd (grind (arith, nat_tests, none))

both_true : (a b : Bool) → (a && b) ≡ true → (a ≡ true) × (b ≡ true)
both_true true b e = (refl, e)
both_true false b e = absurd (true≢false (sym e))

pub no_default : (rows : List Row) (a : Rule) → is_empty a.defaults ≡ true → default_fault rows a ≡ []
no_default rows a none =
    ap (λ (e : Bool). cond (has_row a.id rows || e) [] (given_default_fault a a.defaults)) none
    ∙ ap (λ (e : Bool). cond e [] (given_default_fault a a.defaults)) (or_true (has_row a.id rows))

pub no_more : (rows : List Row) (a : Rule) → is_empty a.defaults ≡ true → with_default rows a ≡ rows
no_more rows a none =
    ap (λ ds. cond (has_row a.id rows) rows (default_rows a.id (reading_by a) ds rows)) (is_nil a.defaults none) ∙ same_both (has_row a.id rows) rows

no_faults : (rows : List Row) (rules : List Rule) → have_no_defaults rules ≡ true → defaults_fault rows rules ≡ []
unfolding defaults_fault
no_faults rows [] none = refl
no_faults rows (a ∷ rules) none =
    let parts = both_true (is_empty a.defaults) (have_no_defaults rules) none in
    both (default_fault rows a) (defaults_fault (with_default rows a) rules) (no_default rows a parts.0)
    (ap (λ rs. defaults_fault rs rules) (no_more rows a parts.0) ∙ no_faults rows rules parts.1)

no_rows_more : (rows : List Row) (rules : List Rule) → have_no_defaults rules ≡ true → fold with_default rows rules ≡ rows
no_rows_more rows [] none = refl
no_rows_more rows (a ∷ rules) none =
    let parts = both_true (is_empty a.defaults) (have_no_defaults rules) none in
    ap (λ rs. fold with_default rs rules) (no_more rows a parts.0) ∙ no_rows_more rows rules parts.1

-- ---- one command

-- what is asked of a command so that words behind its own are read, and these rows are its matches
pub record IsRead (s : Shape) (words : List Text) (rows : List Row) : Type 0 where
  -- what the words give, before defaults
  pub found : List Row
  pub ending : Ends s nothing_held words found
  pub defaults : defaults_fault found s.rules ≡ []
  pub completed : fold with_default found s.rules ≡ rows
  pub checked : check_fault s rows false ≡ []

-- options are read where no option has a default
pub options_read : (s : Shape) (given : List Given) → have_no_defaults s.rules ≡ true → All (λ one. HasOption s.rules one.0) given → IsDistinct bytes_eq (map (λ one. one.0) given)
    → All (λ one. begins_with_dash one.1 ≡ false) given → check_fault s (map row_for given) false ≡ [] → IsRead s (words_of given) (map row_for given)
options_read s given none options once plain checked = record {
  found = map row_for given;
  ending = ends s given nothing_held refl refl options plain (λ k d lt. refl) once;
  defaults = no_faults (map row_for given) s.rules none;
  completed = no_rows_more (map row_for given) s.rules none;
  checked = checked;
}

module _ (s : Shape) (words : List Text) (rows : List Row) (is : IsRead s words rows) where
  held_is : (walk s.rules [] nothing_held words).held ≡ is.ending.behind
  held_is = ap (λ (w : Walk). w.held) is.ending.walks

  all_found : (settled s.rules is.ending.behind).rows ≡ is.found
  all_found = is.ending.rows

  pub finds : finished s.rules is.ending.behind ≡ rows
  finds = ap (λ rs. fold with_default rs s.rules) all_found ∙ is.completed

  pub level_passes : level_fault s [] nothing_held words false [] ≡ []
  level_passes =
      let behind : Held → Kinds = λ h. or_else (settle_fault s.rules s.args_override_self h)
      (or_else (defaults_fault (settled s.rules h).rows s.rules) (check_fault s (finished s.rules h) false)) in
      both (walk_fault s [] (walk_from nothing_held) words) (behind (walk s.rules [] nothing_held words).held) is.ending.taken
      (ap behind held_is
      ∙ both (settle_fault s.rules s.args_override_self is.ending.behind)
      (or_else (defaults_fault (settled s.rules is.ending.behind).rows s.rules) (check_fault s (finished s.rules is.ending.behind) false))
      is.ending.settles
      (both (defaults_fault (settled s.rules is.ending.behind).rows s.rules) (check_fault s (finished s.rules is.ending.behind) false)
      (ap (λ rs. defaults_fault rs s.rules) all_found ∙ is.defaults)
      (ap (λ rs. check_fault s rs false) finds ∙ is.checked)))

  pub rows_found : rows_after s.rules [] words ≡ rows
  rows_found = ap (finished s.rules) held_is ∙ finds

-- ---- the program

-- where the walk stands at the word of a command
abbrev pub stopped_at : Text → List Text → Walk
stopped_at word words = record (walk_from nothing_held) { stopped = Some (word, words) }

-- the program has a command of this word
pub record HasCommand (a : App) (word : Text) (s : Shape) : Type 0 where
  pub stops : ◌≡◌ {A = Walk} (walked a.top.rules (names_of a) (walk_from nothing_held) word) (stopped_at word [])
  pub turns : turn_fault a.top (names_of a) (walk_from nothing_held) word ≡ []
  pub found : find (λ sub. answers_to word (label_of sub)) a.subs ≡ Some s
  pub checked : or_else (defaults_fault [] a.top.rules) (check_fault a.top (finished a.top.rules nothing_held) true) ≡ []

stays_stopped : (a : App) (word : Text) (seen words : List Text) → walk_fault a.top (names_of a) (stopped_at word seen) words ≡ []
unfolding walk_fault walked
stays_stopped a word seen [] = refl
stays_stopped a word seen (next ∷ words) = stays_stopped a word (seen ++ next ∷ []) words

module _ (a : App) (word : Text) (s : Shape) (has : HasCommand a word s) where
  walk_is : (words : List Text) → ◌≡◌ {A = Walk} (walk a.top.rules (names_of a) nothing_held (word ∷ words)) (stopped_at word words)
  walk_is words =
      ap (λ w. fold (walked a.top.rules (names_of a)) w words) has.stops
      ∙ sym (walk_stopped a.top.rules (names_of a) (walk_from nothing_held) word [] words)

  abbrev entered_at : List Text → Option Shape → Option (Text × List Row)
  entered_at words = option_map (λ sub. rows_at sub words)

  pub command_passes : (words : List Text) → level_fault s [] nothing_held words false [] ≡ [] → built_fault a nothing_held (word ∷ words) ≡ []
  unfolding walk_fault
  command_passes words below =
      let behind : Walk → Kinds = λ w. or_else (entered_fault a w.stopped) (or_else (settle_fault a.top.rules a.top.args_override_self w.held)
      (or_else (defaults_fault (settled a.top.rules w.held).rows a.top.rules) (check_fault a.top (finished a.top.rules w.held) (is_some (entered a w.stopped))))) in
      let entering : Option Shape → Kinds = λ sub. or_else (option_map_or (λ t. level_fault t [] nothing_held words false []) sub [])
      (or_else (defaults_fault [] a.top.rules) (check_fault a.top (finished a.top.rules nothing_held) (is_some (entered_at words sub)))) in
      both (walk_fault a.top (names_of a) (walk_from nothing_held) (word ∷ words)) (behind (walk a.top.rules (names_of a) nothing_held (word ∷ words)))
      (both (turn_fault a.top (names_of a) (walk_from nothing_held) word) (walk_fault a.top (names_of a) (walked a.top.rules (names_of a) (walk_from nothing_held) word) words)
      has.turns
      (ap (λ w. walk_fault a.top (names_of a) w words) has.stops ∙ stays_stopped a word [] words))
      (ap behind (walk_is words) ∙ ap entering has.found
      ∙ both (level_fault s [] nothing_held words false []) (or_else (defaults_fault [] a.top.rules) (check_fault a.top (finished a.top.rules nothing_held) true)) below has.checked)

  pub command_entered : (words : List Text) → entered a (stop_after a.top.rules (names_of a) (word ∷ words)) ≡ Some (rows_at s words)
  command_entered words = ap (λ (w : Walk). entered a w.stopped) (walk_is words) ∙ ap (entered_at words) has.found

-- ---- what was found

-- beside rows of other names
pub first_beside : (name : Text) (given : List Given) (more : List Row) → first_of name more ≡ None → first_of name (map row_for given ++ more) ≡ value_of name given
first_beside name [] more none = none
first_beside name (one ∷ given) more none = go (bytes_eq one.0 name) (first_beside name given more none)
  where
    go : (b : Bool) → first_of name (map row_for given ++ more) ≡ value_of name given
        → option_and_then (λ (r : Row). slice_get r.values 0) (cond b (Some (row_for one)) (find (λ r. bytes_eq r.id name) (map row_for given ++ more)))
        ≡ option_map (λ (o : Given). o.1) (cond b (Some one) (find (λ o. bytes_eq o.0 name) given))
    go true e = refl
    go false e = e

pub given_beside : (name : Text) (given : List Given) (more : List Row) → is_given name more ≡ false → is_given name (map row_for given ++ more) ≡ is_some (value_of name given)
given_beside name [] more none = none
given_beside name (one ∷ given) more none = go (bytes_eq one.0 name) (given_beside name given more none)
  where
    go : (b : Bool) → is_given name (map row_for given ++ more) ≡ is_some (value_of name given)
        → option_map_or (λ (r : Row). explicit_source r.source) (cond b (Some (row_for one)) (find (λ r. bytes_eq r.id name) (map row_for given ++ more))) false
        ≡ is_some (option_map (λ (o : Given). o.1) (cond b (Some one) (find (λ o. bytes_eq o.0 name) given)))
    go true e = refl
    go false e = e

pub first_found : (name : Text) (given : List Given) → first_of name (map row_for given) ≡ value_of name given
first_found name given = ap (first_of name) (sym (append-nil (map row_for given))) ∙ first_beside name given [] refl

pub given_found : (name : Text) (given : List Given) → is_given name (map row_for given) ≡ is_some (value_of name given)
given_found name given = ap (is_given name) (sym (append-nil (map row_for given))) ∙ given_beside name given [] refl

-- behind rows of other names
pub first_behind : (name : Text) (rows more : List Row) → has_row name rows ≡ false → first_of name (rows ++ more) ≡ first_of name more
first_behind name [] more none = refl
first_behind name (row ∷ rows) more none = go (bytes_eq row.id name) none (first_behind name rows more)
  where
    go : (b : Bool) → (b || has_row name rows) ≡ false → (has_row name rows ≡ false → first_of name (rows ++ more) ≡ first_of name more)
        → option_and_then (λ (r : Row). slice_get r.values 0) (cond b (Some row) (find (λ r. bytes_eq r.id name) (rows ++ more))) ≡ first_of name more
    go true is later = absurd (true≢false is)
    go false is later = later is

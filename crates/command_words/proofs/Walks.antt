-- What clap's walk makes of options and flags in plain spelling.
use Rattle.std.proofs.Common.{◌≡◌, ◌∙◌, sym, ap, subst, refl, ◌&&◌, ◌||◌, cond, Bool, true, false, not, List, [], ◌∷◌, ◌++◌, map, codes, Some, None, nat_lt, true≢false, append-nil, append_assoc}
use Rattle.std.specs.List.{All, AllByRecursion, IsDistinct, fold}
use Rattle.std.specs.Option.{option_map_or}
use Rattle.std.specs.Str.{bytes_eq}
use Rattle.std.proofs.lemmas.List.Elements.{All-cons, All-head, All-nil, All-tail}
use Rattle.std.proofs.lemmas.Slice.Eq.{bytes_eq-Decides}
use Rattle.clap.specs.Lexer.{long_of, short_of}
use Rattle.clap.specs.Walk.{Held, Outcome, Row, Rule, Step, Text, Walk, arg_by_id, arg_by_long, at_row, after_flag, after_step, idle, option, settled, trailing, walk_from, walked, has_row, long_met, long_or_other, nothing_held, with_default, with_values, short_or_plain, option_word, next, used, used_by_id, more_values}
use Rattle.clap.specs.Simple.{Shape, filled, new_rule}
use Rattle.clap.specs.Faults.{bundle_fault, flag_word_fault, long_fault, settle_fault, step_fault, turn_fault, use_fault, walk_fault}
use Rattle.clap.specs.Kinds.{Kinds, or_else}
use Rattle.clap.specs.declared.error.kind.ErrorKind.TheVariants.{ArgumentConflict}
use Rattle.clap.specs.declared.builder.value_parser.Reading.TheVariants.{AsWritten}
use Rattle.clap.specs.declared.builder.action.ArgAction.TheVariants.{SetTrue}
use Rattle.clap.specs.declared.parser.matches.ValueSource.TheVariants.{CommandLine, DefaultValue}
use Rattle.command_words.specs.Spelling.{Given, begins_with_dash, dashed, words_of}

-- ---- tests

-- a text is itself
itself : (name : Text) → bytes_eq name name ≡ true
itself name = (bytes_eq-Decides name name).1 refl

-- a value that doesn't begin with a dash is no flag
not_dashes : (value : Text) → begins_with_dash value ≡ false → bytes_eq value (45 ∷ 45 ∷ []) ≡ false
not_dashes [] plain = refl
not_dashes (byte ∷ rest) plain = rw plain refl

not_long : (value : Text) → begins_with_dash value ≡ false → long_of value ≡ None
not_long [] plain = refl
not_long (byte ∷ rest) plain = rw plain refl

not_short : (value : Text) → begins_with_dash value ≡ false → short_of value ≡ None
not_short [] plain = refl
not_short (byte ∷ rest) plain = rw plain refl

-- a row is added where there is none of its name
no_row : (name : Text) (change : Row → List Row) (missing : List Row) (rows : List Row) → has_row name rows ≡ false → at_row name change missing rows ≡ rows ++ missing
no_row name change missing [] new = refl
no_row name change missing (row ∷ rows) new = go (bytes_eq row.id name) new (no_row name change missing rows)
  where
    go : (b : Bool) → (b || has_row name rows) ≡ false → (has_row name rows ≡ false → at_row name change missing rows ≡ rows ++ missing)
        → cond b (change row ++ rows) (row ∷ at_row name change missing rows) ≡ row ∷ (rows ++ missing)
    go true none later = absurd (true≢false none)
    go false none later = ap (λ rs. row ∷ rs) (later none)

-- ---- an option with one value

-- the rule of an option, as it is when its command is built
abbrev pub rule_of_option : Text → Bool → Rule
rule_of_option name needed = filled (record (new_rule name) { long = Some name; required = needed })

-- the rules have an option of this name
pub record HasOption (rules : List Rule) (name : Text) : Type 0 where
  pub needed : Bool
  pub is_long : long_of (dashed name) ≡ Some (name, None)
  pub is_named : bytes_eq (dashed name) (45 ∷ 45 ∷ []) ≡ false
  pub by_long : arg_by_long rules name ≡ Some (rule_of_option name needed)
  pub by_id : arg_by_id rules name ≡ Some (rule_of_option name needed)

-- what is found for an option with its value
abbrev pub row_for : Given → Row
row_for one = record { id = one.0; values = one.1 ∷ []; count = None; source = Some CommandLine; reading = AsWritten }

-- what is held where these rows are done, and this option has these values
abbrev pub held : List Row → Text → List Text → Held
held rows name values = record { rows = rows; pending = Some (name, values); skip = 0 }

-- an option's word is met, and its value is waited for
abbrev pub awaiting : List Row → Text → Walk
awaiting rows name = record (walk_from (held rows name [])) { waiting = option name }

module _ (s : Shape) (name : Text) (has : HasOption s.rules name) where
  abbrev step_behind : Held → Held × Step → Walk
  step_behind h met = after_step s.rules (dashed name) (walk_from h) met.0 met.1

  abbrev flag_behind : Held → Held × Outcome → Walk
  flag_behind h met = step_behind h (after_flag s.rules idle (dashed name) met.0 met.1)

  named : (h : Held) → h.skip ≡ 0 → ◌≡◌ {A = Walk} (walked s.rules [] (walk_from h) (dashed name)) (awaiting (settled s.rules h).rows name)
  unfolding walked
  named h none =
      ap (λ (b : Bool). step_behind h (cond b (h, trailing 1) (long_or_other s.rules idle (dashed name) (long_of (dashed name)) h))) has.is_named
      ∙ ap (λ l. step_behind h (long_or_other s.rules idle (dashed name) l h)) has.is_long
      ∙ ap (λ r. flag_behind h (long_met s.rules r None h)) has.by_long
      ∙ ap (λ n. (record (walk_from (record { rows = (settled s.rules h).rows; pending = Some (name, []); skip = n })) { waiting = option name })) none

  abbrev value_step : List Row → Text → Held × Step → Walk
  value_step rows value met = after_step s.rules value (awaiting rows name) met.0 met.1

  valued : (rows : List Row) (value : Text) → begins_with_dash value ≡ false → ◌≡◌ {A = Walk} (walked s.rules [] (awaiting rows name) value) (walk_from (held rows name (value ∷ [])))
  unfolding walked
  valued rows value plain =
      ap (λ (b : Bool). value_step rows value (cond b (held rows name [], trailing 1) (long_or_other s.rules (option name) value (long_of value) (held rows name [])))) (not_dashes value plain)
      ∙ ap (λ l. value_step rows value (long_or_other s.rules (option name) value l (held rows name []))) (not_long value plain)
      ∙ ap (λ l. value_step rows value (short_or_plain s.rules (option name) value l (held rows name []))) (not_short value plain)
      ∙ ap (λ r. value_step rows value ((option_word r name value (held rows name [])).0, next (option_word r name value (held rows name [])).1)) has.by_id
      ∙ ap (λ (b : Bool). value_step rows value (held rows name (value ∷ []), next (cond (nat_lt (cond b 1 0) 1) (option name) idle))) (itself name)

  -- what is held for an option is found at the end, or at the next option
  settles : (rows : List Row) (value : Text) → has_row name rows ≡ false → (settled s.rules (held rows name (value ∷ []))).rows ≡ rows ++ row_for (name, value) ∷ []
  settles rows value new =
      ap (λ r. used_by_id r (value ∷ []) rows) has.by_id
      ∙ ap (with_values name AsWritten CommandLine (value ∷ [])) (no_row name (λ _. []) [] rows new ∙ append-nil rows)
      ∙ no_row name (more_values CommandLine (value ∷ [])) (row_for (name, value) ∷ []) rows new

  no_fault : (rows : List Row) (value : Text) → has_row name rows ≡ false → settle_fault s.rules s.args_override_self (held rows name (value ∷ [])) ≡ []
  no_fault rows value new =
      ap (λ r. option_map_or (λ a. use_fault s.args_override_self a (value ∷ []) rows) r []) has.by_id
      ∙ ap (λ (b : Bool). or_else (cond (b && not s.args_override_self) (ArgumentConflict ∷ []) []) []) new

  abbrev kinds_of : Held × Step → Kinds
  kinds_of met = step_fault s 1 met.0 met.1

  name_taken : (h : Held) → settle_fault s.rules s.args_override_self h ≡ [] → turn_fault s [] (walk_from h) (dashed name) ≡ []
  name_taken h pass =
      ap (λ (b : Bool). or_else (cond b [] (flag_word_fault s.rules s.args_override_self (long_of (dashed name)) (dashed name) h))
      (kinds_of (cond b (h, trailing 1) (long_or_other s.rules idle (dashed name) (long_of (dashed name)) h)))) has.is_named
      ∙ ap (λ l. or_else (flag_word_fault s.rules s.args_override_self l (dashed name) h) (kinds_of (long_or_other s.rules idle (dashed name) l h))) has.is_long
      ∙ ap (λ r. or_else (long_fault s.rules s.args_override_self r None h)
      (kinds_of (after_flag s.rules idle (dashed name) (long_met s.rules r None h).0 (long_met s.rules r None h).1))) has.by_long
      ∙ ap (λ k. or_else k []) pass

  value_taken : (rows : List Row) (value : Text) → begins_with_dash value ≡ false → turn_fault s [] (awaiting rows name) value ≡ []
  value_taken rows value plain =
      let h = held rows name [] in
      ap (λ (b : Bool). or_else (cond b [] (flag_word_fault s.rules s.args_override_self (long_of value) value h))
      (kinds_of (cond b (h, trailing 1) (long_or_other s.rules (option name) value (long_of value) h)))) (not_dashes value plain)
      ∙ ap (λ l. or_else (flag_word_fault s.rules s.args_override_self l value h) (kinds_of (long_or_other s.rules (option name) value l h))) (not_long value plain)
      ∙ ap (λ l. or_else (option_map_or (λ flags. bundle_fault s.rules s.args_override_self flags h) l []) (kinds_of (short_or_plain s.rules (option name) value l h))) (not_short value plain)

-- ---- a flag

-- the rule of a flag, as it is when its command is built
abbrev pub rule_of_flag : Text → Rule
rule_of_flag name = filled (record (new_rule name) { long = Some name; action = Some SetTrue })

-- the rules have a flag of this name
pub record HasFlag (rules : List Rule) (name : Text) : Type 0 where
  pub is_long : long_of (dashed name) ≡ Some (name, None)
  pub is_named : bytes_eq (dashed name) (45 ∷ 45 ∷ []) ≡ false
  pub by_long : arg_by_long rules name ≡ Some (rule_of_flag name)

-- what is found for a flag that stands among the words, and for one that doesn't
abbrev pub set_row : Text → Row
set_row name = record { id = name; values = codes "true" ∷ []; count = None; source = Some CommandLine; reading = AsWritten }

abbrev pub unset_row : Text → Row
unset_row name = record { id = name; values = codes "false" ∷ []; count = None; source = Some DefaultValue; reading = AsWritten }

-- what is held where these rows are done, and nothing is waited for
abbrev pub done_with : List Row → Held
done_with rows = record { rows = rows; pending = None; skip = 0 }

set_added : (name : Text) (rows : List Row) → has_row name rows ≡ false → used (rule_of_flag name) [] rows ≡ rows ++ set_row name ∷ []
set_added name rows new =
    ap (with_values name AsWritten CommandLine (codes "true" ∷ [])) (no_row name (λ _. []) [] rows new ∙ append-nil rows)
    ∙ no_row name (more_values CommandLine (codes "true" ∷ [])) (set_row name ∷ []) rows new

pub unset_added : (name : Text) (rows : List Row) → has_row name rows ≡ false → with_default rows (rule_of_flag name) ≡ rows ++ unset_row name ∷ []
unset_added name rows new =
    ap (λ (b : Bool). cond b rows (with_values name AsWritten DefaultValue (codes "false" ∷ []) rows)) new
    ∙ no_row name (more_values DefaultValue (codes "false" ∷ [])) (unset_row name ∷ []) rows new

module _ (s : Shape) (name : Text) (has : HasFlag s.rules name) where
  abbrev step_after : Held → Held × Step → Walk
  step_after h met = after_step s.rules (dashed name) (walk_from h) met.0 met.1

  abbrev flag_after : Held → Held × Outcome → Walk
  flag_after h met = step_after h (after_flag s.rules idle (dashed name) met.0 met.1)

  abbrev kinds_after : Held × Step → Kinds
  kinds_after met = step_fault s 1 met.0 met.1

  flagged : (h : Held) → h.skip ≡ 0 → has_row name (settled s.rules h).rows ≡ false
      → ◌≡◌ {A = Walk} (walked s.rules [] (walk_from h) (dashed name)) (walk_from (done_with ((settled s.rules h).rows ++ set_row name ∷ [])))
  unfolding walked
  flagged h none new =
      ap (λ (b : Bool). step_after h (cond b (h, trailing 1) (long_or_other s.rules idle (dashed name) (long_of (dashed name)) h))) has.is_named
      ∙ ap (λ l. step_after h (long_or_other s.rules idle (dashed name) l h)) has.is_long
      ∙ ap (λ r. flag_after h (long_met s.rules r None h)) has.by_long
      ∙ ap (λ n. walk_from (record { rows = used (rule_of_flag name) [] (settled s.rules h).rows; pending = None; skip = n })) none
      ∙ ap (λ rows. walk_from (done_with rows)) (set_added name (settled s.rules h).rows new)

  flag_taken : (h : Held) → settle_fault s.rules s.args_override_self h ≡ [] → has_row name (settled s.rules h).rows ≡ false → turn_fault s [] (walk_from h) (dashed name) ≡ []
  flag_taken h pass new =
      let rows = (settled s.rules h).rows in
      ap (λ (b : Bool). or_else (cond b [] (flag_word_fault s.rules s.args_override_self (long_of (dashed name)) (dashed name) h))
      (kinds_after (cond b (h, trailing 1) (long_or_other s.rules idle (dashed name) (long_of (dashed name)) h)))) has.is_named
      ∙ ap (λ l. or_else (flag_word_fault s.rules s.args_override_self l (dashed name) h) (kinds_after (long_or_other s.rules idle (dashed name) l h))) has.is_long
      ∙ ap (λ r. or_else (long_fault s.rules s.args_override_self r None h)
      (kinds_after (after_flag s.rules idle (dashed name) (long_met s.rules r None h).0 (long_met s.rules r None h).1))) has.by_long
      ∙ ap (λ k. or_else (or_else k (use_fault s.args_override_self (rule_of_flag name) [] rows)) []) pass
      ∙ ap (λ (b : Bool). or_else (or_else (cond (b && not s.args_override_self) (ArgumentConflict ∷ []) []) []) []) new

-- ---- all options

-- the walk over words ends so, from what is held before them: these rows are found besides
pub record Ends (s : Shape) (before : Held) (words : List Text) (found : List Row) : Type 0 where
  pub behind : Held
  pub walks : ◌≡◌ {A = Walk} (fold (walked s.rules []) (walk_from before) words) (walk_from behind)
  pub rows : (settled s.rules behind).rows ≡ (settled s.rules before).rows ++ found
  pub settles : settle_fault s.rules s.args_override_self behind ≡ []
  pub taken : walk_fault s [] (walk_from before) words ≡ []
  pub still : behind.skip ≡ 0

pub both : (a b : Kinds) → a ≡ [] → b ≡ [] → or_else a b ≡ []
both [] b p q = q
both (x ∷ xs) b p q = p

still_new : (name other : Text) (rows : List Row) (value : Text) → has_row name rows ≡ false → bytes_eq other name ≡ false → has_row name (rows ++ row_for (other, value) ∷ []) ≡ false
still_new name other [] value new differ = rw differ refl
still_new name other (row ∷ rows) value new differ = go (bytes_eq row.id name) new (λ none. still_new name other rows value none differ)
  where
    go : (b : Bool) → (b || has_row name rows) ≡ false → (has_row name rows ≡ false → has_row name (rows ++ row_for (other, value) ∷ []) ≡ false) → (b || has_row name (rows ++ row_for (other, value) ∷ [])) ≡ false
    go true is later = is
    go false is later = later is

-- names that no row has, and that another name isn't, have no row beside that one's
all_new : (other value : Text) (rows : List Row) (given : List Given) → All (λ one. has_row one.0 rows ≡ false) given → AllByRecursion (λ name. bytes_eq other name ≡ false) (map (λ one. one.0) given)
    → All (λ one. has_row one.0 (rows ++ row_for (other, value) ∷ []) ≡ false) given
all_new other value rows [] new differ = All-nil (λ one. has_row one.0 (rows ++ row_for (other, value) ∷ []) ≡ false)
all_new other value rows (one ∷ given) new differ =
    All-cons (λ one. has_row one.0 (rows ++ row_for (other, value) ∷ []) ≡ false) one given
    (still_new one.0 other rows value (All-head (λ one. has_row one.0 rows ≡ false) one given new) differ.0)
    (all_new other value rows given (All-tail (λ one. has_row one.0 rows ≡ false) one given new) differ.1)

pub ends : (s : Shape) (given : List Given) (h : Held) → h.skip ≡ 0 → settle_fault s.rules s.args_override_self h ≡ []
    → All (λ one. HasOption s.rules one.0) given → All (λ one. begins_with_dash one.1 ≡ false) given → All (λ one. has_row one.0 (settled s.rules h).rows ≡ false) given
    → IsDistinct bytes_eq (map (λ one. one.0) given) → Ends s h (words_of given) (map row_for given)
unfolding walk_fault IsDistinct
ends s [] h none pass options plain new once = record { behind = h; walks = refl; rows = sym (append-nil (settled s.rules h).rows); settles = pass; taken = refl; still = none }
ends s (one ∷ given) h none pass options plain new once =
    let has = All-head (λ one. HasOption s.rules one.0) one given options in
    let value_plain = All-head (λ one. begins_with_dash one.1 ≡ false) one given plain in
    let rows = (settled s.rules h).rows in
    let first_new : has_row one.0 rows ≡ false = All-head (λ one. has_row one.0 rows ≡ false) one given new in
    let now = held rows one.0 (one.1 ∷ []) in
    let settled_now : (settled s.rules now).rows ≡ rows ++ row_for one ∷ [] = settles s one.0 has rows one.1 first_new in
    let later = ends s given now refl (no_fault s one.0 has rows one.1 first_new)
    (All-tail (λ one. HasOption s.rules one.0) one given options)
    (All-tail (λ one. begins_with_dash one.1 ≡ false) one given plain)
    (subst (λ rs. All (λ one. has_row one.0 rs ≡ false) given) (sym settled_now) (all_new one.0 one.1 rows given (All-tail (λ one. has_row one.0 rows ≡ false) one given new) once.0))
    once.1 in
    let first = named s one.0 has h none in
    let second = valued s one.0 has rows one.1 value_plain in
    record {
      behind = later.behind;
      walks =
          ap (λ w. fold (walked s.rules []) (walked s.rules [] w one.1) (words_of given)) first
          ∙ ap (λ w. fold (walked s.rules []) w (words_of given)) second
          ∙ later.walks;
      rows = later.rows ∙ ap (λ rs. rs ++ map row_for given) settled_now ∙ append_assoc rows (row_for one ∷ []) (map row_for given);
      settles = later.settles;
      taken = both _ _ (name_taken s one.0 has h pass)
          (subst (λ w. or_else (turn_fault s [] w one.1) (walk_fault s [] (walked s.rules [] w one.1) (words_of given)) ≡ []) (sym first)
          (both _ _ (value_taken s one.0 has rows one.1 value_plain) (subst (λ w. walk_fault s [] w (words_of given) ≡ []) (sym second) later.taken)));
      still = later.still;
    }

-- ---- a flag before words, or after them

either : (a b : Kinds) → or_else a b ≡ [] → (a ≡ []) × (b ≡ [])
either [] b none = (refl, none)
either (kind ∷ kinds) b none = absurd (cc none)

walks_on : (s : Shape) (w : Walk) (words more : List Text) → fold (walked s.rules []) w (words ++ more) ≡ fold (walked s.rules []) (fold (walked s.rules []) w words) more
walks_on s w [] more = refl
walks_on s w (word ∷ words) more = walks_on s (walked s.rules [] w word) words more

taken_on : (s : Shape) (w : Walk) (words more : List Text) → walk_fault s [] w words ≡ [] → walk_fault s [] (fold (walked s.rules []) w words) more ≡ [] → walk_fault s [] w (words ++ more) ≡ []
unfolding walk_fault
taken_on s w [] more none rest = rest
taken_on s w (word ∷ words) more none rest =
    let parts = either (turn_fault s [] w word) (walk_fault s [] (walked s.rules [] w word) words) none in
    both (turn_fault s [] w word) (walk_fault s [] (walked s.rules [] w word) (words ++ more)) parts.0 (taken_on s (walked s.rules [] w word) words more parts.1 rest)

module _ (s : Shape) (name : Text) (has : HasFlag s.rules name) where
  pub flag_first : (words : List Text) (found : List Row) → Ends s (done_with (set_row name ∷ [])) words found → Ends s nothing_held (dashed name ∷ words) (set_row name ∷ found)
  unfolding walk_fault
  flag_first words found e =
      let first = flagged s name has nothing_held refl refl in
      record {
        behind = e.behind;
        walks = ap (λ w. fold (walked s.rules []) w words) first ∙ e.walks;
        rows = e.rows;
        settles = e.settles;
        taken = both _ _ (flag_taken s name has nothing_held refl refl) (subst (λ w. walk_fault s [] w words ≡ []) (sym first) e.taken);
        still = e.still;
      }

  pub flag_last : (words : List Text) (found : List Row) → Ends s nothing_held words found → has_row name found ≡ false → Ends s nothing_held (words ++ dashed name ∷ []) (found ++ set_row name ∷ [])
  unfolding walk_fault
  flag_last words found e new =
      let rows : (settled s.rules e.behind).rows ≡ found = e.rows in
      let still_none : has_row name (settled s.rules e.behind).rows ≡ false = ap (has_row name) rows ∙ new in
      record {
        behind = done_with ((settled s.rules e.behind).rows ++ set_row name ∷ []);
        walks = walks_on s (walk_from nothing_held) words (dashed name ∷ []) ∙ ap (λ w. walked s.rules [] w (dashed name)) e.walks ∙ flagged s name has e.behind e.still still_none;
        rows = ap (λ rs. rs ++ set_row name ∷ []) rows;
        settles = refl;
        taken = taken_on s (walk_from nothing_held) words (dashed name ∷ []) e.taken
            (subst (λ w. walk_fault s [] w (dashed name ∷ []) ≡ []) (sym e.walks) (both _ _ (flag_taken s name has e.behind e.settles still_none) refl));
        still = refl;
      }

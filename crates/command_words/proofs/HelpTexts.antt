-- The texts of the help, written of the rows that a function has.
use Rattle.std.proofs.Common.{◌≡◌, ◌∙◌, ap, ap₂, sym, refl, ℕ, zero, suc, List, [], ◌∷◌, ◌++◌, map, Option, Result, Ok, Err, OnOk, Bool, append_assoc}
use Rattle.std.specs.Prelude.{option_map, position, slice_get}
use Rattle.std.specs.Option.{option_map_or}
use Rattle.std.specs.Str.{bytes_eq}
use Rattle.std.specs.List.{flat_map}
use Rattle.std.proofs.lemmas.List.Folds.{flat_map-map}
use Rattle.command_words.specs.Spelling.{Help, Row}
use Rattle.command_words.specs.Meanings.{commands, helps}
use Rattle.command_words.specs.Helps.{choice_text, command_line, help_by, help_text}
use Rattle.command_words.specs.Rows.{RawRow, Words, choice_in, place_in, row_in}
use Rattle.command_words.specs.Taken.{topic_by}
use Rattle.command_words.specs.declared.command.Topic.{Topic}
use Rattle.command_words.proofs.Tables.{position_of_map}

-- what is written, under another name
pub written_so : {X E : Type 0} (r : Result X E) (old new text other : List ℕ) → text ≡ other → OnOk r (new ≡ old ++ text) → OnOk r (new ≡ old ++ other)
written_so (Ok x) old new text other same is = is ∙ ap (λ (t : List ℕ). old ++ t) same
written_so (Err e) old new text other same is = is

-- three texts one after another
pub three_written : {X E : Type 0} (r : Result X E) (old one two new t1 t2 t3 : List ℕ) → one ≡ old ++ t1 → two ≡ one ++ t2 → OnOk r (new ≡ two ++ t3) → OnOk r (new ≡ old ++ (t1 ++ (t2 ++ t3)))
three_written (Ok x) old one two new t1 t2 t3 first second is =
    is ∙ ap (λ (t : List ℕ). t ++ t3) (second ∙ ap (λ (t : List ℕ). t ++ t2) first) ∙ (append_assoc (old ++ t1) t2 t3 ∙ append_assoc old t1 (t2 ++ t3))
three_written (Err e) old one two new t1 t2 t3 first second is = is

pub one_by_one : (f s c e d : List ℕ) → f ++ (s ++ ((c ++ e) ++ d)) ≡ (((f ++ s) ++ c) ++ e) ++ d
one_by_one f s c e d =
    ap (λ (t : List ℕ). f ++ (s ++ t)) (append_assoc c e d)
    ∙ sym (append_assoc ((f ++ s) ++ c) e d ∙ append_assoc (f ++ s) c (e ++ d) ∙ append_assoc f s (c ++ (e ++ d)))

pub choices_text : (choices : List (Words × Words × Bool)) → flat_map (λ c. choice_text (choice_in c)) choices ≡ flat_map choice_text (map choice_in choices)
choices_text choices = sym (flat_map-map choice_text choice_in choices)

pub lines_text : (rows : List RawRow) → map row_in rows ≡ commands → flat_map (λ r. command_line (row_in r)) rows ≡ flat_map command_line commands
lines_text rows are = sym (flat_map-map command_line row_in rows) ∙ ap (flat_map command_line) are

-- what stands at a place of a list that is made of another
of_made : {X Y : Type 0} (f : X → Y) (xs : List X) (place : ℕ) → option_map f (slice_get xs place) ≡ slice_get (map f xs) place
of_made f [] place = refl
of_made f (x ∷ xs) zero = refl
of_made f (x ∷ xs) (suc place) = of_made f xs place

pub placed : {X Y : Type 0} (f : X → Y) (xs : List X) (ys : List Y) (place : ℕ) (o : Option X) → map f xs ≡ ys → o ≡ slice_get xs place → option_map f o ≡ slice_get ys place
placed f xs ys place o are is = ap (option_map f) is ∙ of_made f xs place ∙ ap (λ l. slice_get l place) are

-- the help on what stands at a place
pub help_at_place : (place : ℕ) (row : Option Row) (help : Option Help) → row ≡ slice_get commands place → help ≡ slice_get helps place → help_by row help ≡ help_text (Topic.Command place)
help_at_place place row help is has = ap₂ help_by is has

-- the topic of a word by the place of its row
pub topic_of_place : (rows : List RawRow) (word : List ℕ) → map row_in rows ≡ commands → (o : Option ℕ) → o ≡ place_in word rows
    → option_map_or (λ place. Topic.Command place) o Topic.Program ≡ topic_by word
topic_of_place rows word are o is =
    ap (λ (p : Option ℕ). option_map_or (λ place. Topic.Command place) p Topic.Program)
    (is ∙ sym (position_of_map (λ (row : Row). bytes_eq row.word word) row_in rows) ∙ ap (position (λ (row : Row). bytes_eq row.word word)) are)

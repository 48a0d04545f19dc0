-- When words are a command in plain spelling: its word, and behind it each of its options once with its value, in any
-- order, and a flag before or after them. This project's own.
use Rattle.std.specs.Prelude.{◌≡◌, ◌⊎◌, ◌==◌, not, ℕ, List, [], ◌∷◌, ◌++◌, map, find, filter, filter_map, is_some, if◌then◌else◌, Bool, true, false, Option, Some, None, option_map}
use Rattle.std.specs.List.{All, IsDistinct, list_any}
use Rattle.std.specs.Str.{bytes_eq}

-- an option that is given: its name, and its value
abbrev pub Given : Type 0
Given = List ℕ × List ℕ

-- the word of an option: its name behind two dashes
abbrev pub dashed : List ℕ → List ℕ
dashed name = 45 ∷ 45 ∷ name

-- the words of options: that of each, and its value
abbrev pub words_of : List Given → List (List ℕ)
words_of [] = []
words_of (one ∷ rest) = dashed one.0 ∷ one.1 ∷ words_of rest

-- there is nothing in it
abbrev pub is_empty : List ℕ → Bool
is_empty [] = true
is_empty (byte ∷ rest) = false

-- the text begins with `-`
abbrev pub begins_with_dash : List ℕ → Bool
begins_with_dash [] = false
begins_with_dash (byte ∷ rest) = byte == 45

-- the value that is given for an option, if one is
abbrev pub value_of : List ℕ → List Given → Option (List ℕ)
value_of name given = option_map (λ one. one.1) (find (λ one. bytes_eq one.0 name) given)

-- an option of a command: its name, the word for its value, which a flag doesn't have, and whether the command needs it
pub record Choice : Type 0 where
  pub name : List ℕ
  pub value : List ℕ
  pub needed : Bool

-- it is a flag: an option without a value
abbrev pub is_flag : Choice → Bool
is_flag choice = is_empty choice.value

-- a command: its word, its options, and what it is for
pub record Row : Type 0 where
  pub word : List ℕ
  pub options : List Choice
  pub purpose : List ℕ

-- what the help on a command says below its usage line: what goes in and out, the exit statuses, a line each, and an example
pub record Help : Type 0 where
  pub about : List ℕ
  pub statuses : List ℕ
  pub example : List ℕ

-- the names of the options that a command needs
abbrev pub needed_of : Row → List (List ℕ)
needed_of row = filter_map (λ choice. if choice.needed then Some choice.name else None) row.options

-- the options of a command that have a value
abbrev pub valued_of : Row → List Choice
valued_of row = filter (λ choice. not (is_flag choice)) row.options

-- the command has an option of this name
abbrev pub has_option : Row → List ℕ → Bool
has_option row name = list_any (λ choice. bytes_eq choice.name name) (valued_of row)

-- the words are this command with these options in plain spelling: the command's word comes first, each option is one of
-- its own and stands once, none that it needs is missing, and no value begins with `-`
pub record Spells (row : Row) (given : List Given) (words : List (List ℕ)) : Type 0 where
  pub are : words ≡ row.word ∷ words_of given
  pub known : All (λ one. has_option row one.0 ≡ true) given
  pub once : IsDistinct bytes_eq (map (λ one. one.0) given)
  pub complete : All (λ name. is_some (value_of name given) ≡ true) (needed_of row)
  pub plain : All (λ one. begins_with_dash one.1 ≡ false) given

-- the words are this command with these options in plain spelling, and with this flag, which stands before the options or
-- after them
pub record SpellsWith (row : Row) (flag : List ℕ) (given : List Given) (words : List (List ℕ)) : Type 0 where
  pub without : Spells row given (row.word ∷ words_of given)
  pub are : (words ≡ row.word ∷ dashed flag ∷ words_of given) ⊎ (words ≡ row.word ∷ (words_of given ++ dashed flag ∷ []))

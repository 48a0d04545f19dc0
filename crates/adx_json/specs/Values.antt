-- What an object says by its members' names (RFC 8259, section 4), and what a value is that may be absent.
-- That null counts as absent, and that a number is known by its text, are this project's own.
use Rattle.std.specs.Prelude.{ℕ, List, [], ◌∷◌, ◌&&◌, Bool, true, false, Option, Some, None, is_some}
use Rattle.std.specs.List.{list_all, filter_map}
use Rattle.std.specs.Str.{bytes_eq}
use Rattle.adx_units.specs.Number.{whole_up_to}
use Rattle.adx_json.specs.Tree.{Tree, null, number, text, list, object, Items, no_items, item}
use Rattle.adx_json.specs.Named.{member_in}

-- a value, where it isn't null
abbrev pub not_null : Option Tree → Option Tree
not_null (Some null) = None
not_null v = v

-- the value of an object's member; null counts as absent, and a tree that is no object has no members
abbrev pub given : List ℕ → Tree → Option Tree
given name t = not_null (member_in name t)

-- a member of an object that may be absent
abbrev pub given_within : List ℕ → Option Tree → Option Tree
given_within name None = None
given_within name (Some t) = given name t

-- the text that a value is
abbrev pub text_in : Option Tree → Option (List ℕ)
text_in (Some (text t)) = Some t
text_in v = None

-- the text of the number that a value is
abbrev pub number_in : Option Tree → Option (List ℕ)
number_in (Some (number n)) = Some n
number_in v = None

-- an absent text is empty
abbrev pub or_empty : Option (List ℕ) → List ℕ
or_empty None = []
or_empty (Some t) = t

-- the text, empty if it is absent
abbrev pub text_or_empty : Option Tree → List ℕ
text_or_empty v = or_empty (text_in v)

-- the items of a list
abbrev pub list_items : Items → List Tree
list_items no_items = []
list_items (item t ts) = t ∷ list_items ts

-- the items of the list that a value is; none where it is no list
abbrev pub items_in : Option Tree → List Tree
items_in (Some (list ts)) = list_items ts
items_in v = []

-- absent, or a text
abbrev pub is_text_if_given : Option Tree → Bool
is_text_if_given None = true
is_text_if_given (Some t) = is_some (text_in (Some t))

-- absent, or a list
abbrev pub is_list_if_given : Option Tree → Bool
is_list_if_given None = true
is_list_if_given (Some (list ts)) = true
is_list_if_given v = false

-- absent, or an object
abbrev pub is_object_if_given : Option Tree → Bool
is_object_if_given None = true
is_object_if_given (Some (object ms)) = true
is_object_if_given v = false

-- there is a text, and it reads so
abbrev pub reads : List ℕ → Option (List ℕ) → Bool
reads want None = false
reads want (Some n) = bytes_eq n want

-- the text that reads so
abbrev pub is_text : List ℕ → Option Tree → Bool
is_text want v = reads want (text_in v)

-- absent, or the text that reads so
abbrev pub is_absent_or : List ℕ → Option Tree → Bool
is_absent_or want None = true
is_absent_or want (Some t) = is_text want (Some t)

-- the number whose text reads so
abbrev pub is_number_text : List ℕ → Option Tree → Bool
is_number_text want v = reads want (number_in v)

-- the value is a text
abbrev pub is_text_tree : Tree → Bool
is_text_tree t = is_some (text_in (Some t))

-- absent, or a list whose items are texts
abbrev pub are_texts_if_given : Option Tree → Bool
are_texts_if_given v = is_list_if_given v && list_all is_text_tree (items_in v)

-- the texts among some values
abbrev pub texts_among : List Tree → List (List ℕ)
texts_among ts = filter_map (λ t. text_in (Some t)) ts

-- the texts in the list that a value is; none where it is no list
abbrev pub texts_in : Option Tree → List (List ℕ)
texts_in v = texts_among (items_in v)

-- the number, or 0 if it is absent
abbrev pub or_zero : Option ℕ → ℕ
or_zero None = 0
or_zero (Some n) = n

-- the whole number of a text, if it is at most this
abbrev pub whole_by : ℕ → Option (List ℕ) → Option ℕ
whole_by most None = None
whole_by most (Some n) = whole_up_to most n

-- the whole number of at most a bound that a value is; all else counts as absent, which is 0
abbrev pub whole_or_zero : ℕ → Option Tree → ℕ
whole_or_zero most v = or_zero (whole_by most (number_in v))

-- The one compact spelling of a JSON value (RFC 8259): no white space, numbers as they are, and in
-- texts the shortest escapes where an escape is needed.
use Rattle.std.specs.Prelude.{ℕ, List, [], ◌∷◌, ◌++◌, codes, if◌then◌else◌}
use Rattle.adx_units.specs.JsonTexts.{text_spelling}
use Rattle.adx_json.specs.Tree.{Tree, null, boolean, number, text, list, object, Items, no_items, item, Members, no_members, member}

abbrev mutual
  -- the bytes of a value
  pub spelling : Tree → List ℕ
  spelling null = codes "null"
  spelling (boolean b) = if b then codes "true" else codes "false"
  spelling (number n) = n
  spelling (text t) = text_spelling t
  spelling (list ts) = 91 ∷ (items_spelling ts ++ 93 ∷ [])
  spelling (object ms) = 123 ∷ (members_spelling ms ++ 125 ∷ [])

  -- the items with commas between them
  pub items_spelling : Items → List ℕ
  items_spelling no_items = []
  items_spelling (item t ts) = spelling t ++ more_items_spelling ts

  -- each further item behind its comma
  pub more_items_spelling : Items → List ℕ
  more_items_spelling no_items = []
  more_items_spelling (item t ts) = 44 ∷ (spelling t ++ more_items_spelling ts)

  -- members with commas between them
  pub members_spelling : Members → List ℕ
  members_spelling no_members = []
  members_spelling (member n t ms) = text_spelling n ++ 58 ∷ (spelling t ++ more_members_spelling ms)

  -- each further member behind its comma
  pub more_members_spelling : Members → List ℕ
  more_members_spelling no_members = []
  more_members_spelling (member n t ms) = 44 ∷ (text_spelling n ++ 58 ∷ (spelling t ++ more_members_spelling ms))

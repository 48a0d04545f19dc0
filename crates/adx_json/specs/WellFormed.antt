-- Trees that JSON texts can have: numbers are number texts, and the names of each object differ (RFC 8259, sections
-- 4 and 6); texts and names are UTF-8 (section 8.1).
use Rattle.std.specs.Prelude.{◌≢◌, IsTrue, IsUtf8, AllPairs}
use Rattle.adx_units.specs.Number.{is_number}
use Rattle.adx_json.specs.Tree.{Tree, null, boolean, number, text, list, object, Items, no_items, item, Members, no_members, member, names_of}

abbrev mutual
  -- numbers are number texts, and the names of each object differ
  pub IsWellFormed : Tree → Type 0
  IsWellFormed null = Unit {0}
  IsWellFormed (boolean b) = Unit {0}
  IsWellFormed (number n) = IsTrue (is_number n)
  IsWellFormed (text t) = Unit {0}
  IsWellFormed (list ts) = AreWellFormed ts
  IsWellFormed (object ms) = AllPairs (λ a b. a ≢ b) (names_of ms) × HaveWellFormed ms

  -- every item is well formed
  pub AreWellFormed : Items → Type 0
  AreWellFormed no_items = Unit {0}
  AreWellFormed (item t ts) = IsWellFormed t × AreWellFormed ts

  -- every member's value is well formed
  pub HaveWellFormed : Members → Type 0
  HaveWellFormed no_members = Unit {0}
  HaveWellFormed (member n t ms) = IsWellFormed t × HaveWellFormed ms

abbrev mutual
  -- texts and names are UTF-8
  pub HasUtf8 : Tree → Type 0
  HasUtf8 null = Unit {0}
  HasUtf8 (boolean b) = Unit {0}
  HasUtf8 (number n) = Unit {0}
  HasUtf8 (text t) = IsUtf8 t
  HasUtf8 (list ts) = AllHaveUtf8 ts
  HasUtf8 (object ms) = MembersHaveUtf8 ms

  -- all texts in the items are UTF-8
  pub AllHaveUtf8 : Items → Type 0
  AllHaveUtf8 no_items = Unit {0}
  AllHaveUtf8 (item t ts) = HasUtf8 t × AllHaveUtf8 ts

  -- the names of the members and all texts in their values are UTF-8
  pub MembersHaveUtf8 : Members → Type 0
  MembersHaveUtf8 no_members = Unit {0}
  MembersHaveUtf8 (member n t ms) = IsUtf8 n × HasUtf8 t × MembersHaveUtf8 ms

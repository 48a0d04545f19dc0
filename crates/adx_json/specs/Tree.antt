-- JSON values (RFC 8259, section 3) without where they lie in memory: numbers and texts are their bytes.
use Rattle.std.specs.Prelude.{ℕ, suc, max, List, [], ◌∷◌, Bool}

mutual
  -- a value: null, a boolean, a number as its text, a text, a list or an object
  pub data Tree : Type 0 where
    null : Tree
    boolean : Bool → Tree
    number : List ℕ → Tree
    text : List ℕ → Tree
    list : Items → Tree
    object : Members → Tree

  -- the items of a list
  pub data Items : Type 0 where
    no_items : Items
    item : Tree → Items → Items

  -- the members of an object, each a name and a value
  pub data Members : Type 0 where
    no_members : Members
    member : List ℕ → Tree → Members → Members

-- a list's items
abbrev pub items_of : List Tree → Items
items_of [] = no_items
items_of (t ∷ ts) = item t (items_of ts)

-- an object's members, each a name and its value
abbrev pub members_of : List (List ℕ × Tree) → Members
members_of [] = no_members
members_of (m ∷ ms) = member m.0 m.1 (members_of ms)

-- the names of an object's members, in order
abbrev pub names_of : Members → List (List ℕ)
names_of no_members = []
names_of (member n t ms) = n ∷ names_of ms

-- how many lists and objects are one within the other
abbrev mutual
  -- how many lists and objects are one within the other
  pub levels : Tree → ℕ
  levels null = 0
  levels (boolean b) = 0
  levels (number n) = 0
  levels (text t) = 0
  levels (list ts) = suc (items_levels ts)
  levels (object ms) = suc (members_levels ms)

  -- the greatest number of levels among items
  pub items_levels : Items → ℕ
  items_levels no_items = 0
  items_levels (item t ts) = max (levels t) (items_levels ts)

  -- the greatest number of levels among members
  pub members_levels : Members → ℕ
  members_levels no_members = 0
  members_levels (member n t ms) = max (levels t) (members_levels ms)

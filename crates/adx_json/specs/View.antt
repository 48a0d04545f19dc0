-- The tree that a value in memory is.
use Rattle.std.specs.Prelude.{ℕ, List, map}
use Rattle.adx_json.specs.Tree.{Tree, null, boolean, number, text, list, object, items_of, members_of}
use Rattle.adx_json.specs.declared.tree.Json.{Json, fold-Json}
use Rattle.adx_json.specs.declared.tree.Json.TheOpen.{Json-F, Member-F}
use Rattle.adx_json.specs.declared.tree.Member.{Member, fold-Member}

-- one level, with each value inside already seen as its tree, and each member as its name and tree
abbrev pub value_step : Json-F Tree (List ℕ × Tree) → Tree
value_step Json-F.Null = null
value_step (Json-F.Bool b) = boolean b
value_step (Json-F.Number n) = number n
value_step (Json-F.Text t) = text t
value_step (Json-F.List v) = list (items_of v.items)
value_step (Json-F.Object v) = object (members_of v.items)

-- one member as its name and its tree
abbrev pub member_step : Member-F Tree (List ℕ × Tree) → List ℕ × Tree
member_step m = (m.name, m.value)

-- the value without where it lies in memory
abbrev pub tree_of : Json → Tree
tree_of = fold-Json Tree (List ℕ × Tree) value_step member_step

-- a member as its name and tree
abbrev pub member_of : Member → List ℕ × Tree
member_of = fold-Member Tree (List ℕ × Tree) value_step member_step

-- several values, and the members of an object
abbrev pub trees_of : List Json → List Tree
trees_of vs = map tree_of vs

-- the names and trees of several members
abbrev pub members_view : List Member → List (List ℕ × Tree)
members_view ms = map member_of ms

-- An object's members by their names (RFC 8259, section 4).
use Rattle.std.specs.Prelude.{ℕ, List, Option, Some, None, if◌then◌else◌}
use Rattle.std.specs.Str.{bytes_eq}
use Rattle.adx_json.specs.Tree.{Tree, object, Members, no_members, member}

-- the value of the first member with the name
abbrev pub value_of : List ℕ → Members → Option Tree
value_of name no_members = None
value_of name (member n t ms) = if bytes_eq n name then Some t else value_of name ms

-- the value of an object's member; none in a tree that is no object
abbrev pub member_in : List ℕ → Tree → Option Tree
member_in name (object ms) = value_of name ms
member_in name _ = None

-- the members with the value of the first one of that name replaced in its place, or else one more at the end
abbrev pub with_value : List ℕ → Tree → Members → Members
with_value name t no_members = member name t no_members
with_value name t (member n u ms) = if bytes_eq n name then member n t ms else member n u (with_value name t ms)

-- the tree is an object
abbrev pub IsObject : Tree → Type 0
IsObject (object ms) = Unit {0}
IsObject _ = ⊥

-- an object with such a member
abbrev pub with_member : List ℕ → Tree → Tree → Tree
with_member name t (object ms) = object (with_value name t ms)
with_member name t other = other

-- The equations of the view, level by level.
use Rattle.std.proofs.Common.{◌≡◌, ℕ, List, Bool, Vec, Global, rules}
use Rattle.adx_json.specs.Tree.{null, boolean, number, text, list, object, items_of, members_of}
use Rattle.adx_json.specs.View.{tree_of, member_of, trees_of, members_view}
use Rattle.adx_json.specs.declared.tree.Json.{Json, the_lemmas}
use Rattle.adx_json.specs.declared.tree.Json.TheVariants as json
use Rattle.adx_json.specs.declared.tree.Member.{Member, out-Member}

pub tree_of-Null : tree_of json.Null ≡ null
tree_of-Null = search (rules, the_lemmas)

pub tree_of-Bool : (b : Bool) → tree_of (json.Bool b) ≡ boolean b
tree_of-Bool b = search (rules, the_lemmas)

pub tree_of-Number : (n : List ℕ) → tree_of (json.Number n) ≡ number n
tree_of-Number n = search (rules, the_lemmas)

pub tree_of-Text : (t : List ℕ) → tree_of (json.Text t) ≡ text t
tree_of-Text t = search (rules, the_lemmas)

pub tree_of-List : (v : Vec Json Global) → tree_of (json.List v) ≡ list (items_of (trees_of v.items))
tree_of-List v = search (rules, the_lemmas)

pub tree_of-Object : (v : Vec Member Global) → tree_of (json.Object v) ≡ object (members_of (members_view v.items))
tree_of-Object v = search (rules, the_lemmas)

-- a member is its name and its value's tree
pub member_of_parts : (m : Member) → member_of m ≡ ((out-Member m).name, tree_of (out-Member m).value)
member_of_parts m = search (rules, the_lemmas)

-- for a caller's `simp` or `grind`
pub ruleset views = (tree_of-Null, tree_of-Bool, tree_of-Number, tree_of-Text, tree_of-List, tree_of-Object, member_of_parts)

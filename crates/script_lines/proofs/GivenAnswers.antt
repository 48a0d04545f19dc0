-- The answers of a line, in memory and as trees.
use Rattle.std.proofs.Common.{◌≡◌, List}
use Rattle.std.specs.List.{list_all}
use Rattle.adx_json.specs.View.{tree_of, trees_of}
use Rattle.adx_json.specs.declared.tree.Json.{Json}
use Rattle.adx_json.proofs.Items.{all_trees}
use Rattle.script_lines.specs.Members.{is_null_or_object}

pub each_is : (ts : List Json) → list_all (λ t. is_null_or_object (tree_of t)) ts ≡ list_all is_null_or_object (trees_of ts)
each_is ts = all_trees is_null_or_object ts

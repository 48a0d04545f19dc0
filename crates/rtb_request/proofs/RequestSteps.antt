-- The whole of a request.
use Rattle.std.proofs.Common.{◌≡◌, List, length, ◌||◌, ◌==◌, sym, ap₂}
use Rattle.std.proofs.lemmas.List.{length-map}
use Rattle.std.specs.List.{list_any}
use Rattle.adx_json.specs.View.{tree_of, trees_of}
use Rattle.adx_json.specs.declared.tree.Json.{Json}
use Rattle.adx_json.proofs.Items.{any_trees}
use Rattle.rtb_request.specs.Requests.{is_dollars, leaves_dollars}

pub leaves_are : (ts : List Json) → leaves_dollars (trees_of ts) ≡ (length ts == 0 || list_any (λ t. is_dollars (tree_of t)) ts)
leaves_are ts = ap₂ (λ n b. n == 0 || b) (length-map ts tree_of) (sym (any_trees is_dollars ts))

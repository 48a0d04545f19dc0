use Rattle.std.proofs.Common.{◌≡◌, List, drop, true, length, map}
use Rattle.adx_json.specs.Tree.{Tree}
use Rattle.adx_json.specs.View.{trees_of}
use Rattle.adx_json.proofs.Listing.{Walked}
use Rattle.rtb_request.specs.Distinct.{all_distinct}
use Rattle.rtb_request.specs.Imps.{imp_rows, imp_id}
use Rattle.rtb_request.proofs.ImpSteps.{ids}
use Rattle.rtb_request.proofs.imp_reader.imps_of.Given as goal

-- the impressions so far are those of the trees before, and the trees that are left have the fault of all
abbrev pub invariant-loop-tree : goal.invariant-loop-tree
invariant-loop-tree l = record {
  walked : (before : List Tree) × Walked (λ us. imp_rows l.dollars (map imp_id us)) (trees_of l.trees) before l.imps.items (trees_of (drop l.tree-index l.trees));
  distinct : all_distinct (ids l.imps.items) ≡ true;
  count : length l.imps.items ≡ l.tree-index;
}

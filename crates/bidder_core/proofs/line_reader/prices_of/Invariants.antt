use Rattle.std.proofs.Common.{◌≡◌, List, drop, true, length}
use Rattle.adx_json.specs.Tree.{Tree}
use Rattle.adx_json.specs.View.{trees_of}
use Rattle.adx_json.proofs.Listing.{Walked}
use Rattle.rtb_request.specs.Distinct.{all_distinct}
use Rattle.bidder_core.specs.PriceLines.{price_rows}
use Rattle.bidder_core.proofs.PriceSteps.{cids, cids_in}
use Rattle.bidder_core.proofs.line_reader.prices_of.Given as goal

-- the prices so far are those of the trees before, and the trees that are left have the fault of all
abbrev pub invariant-loop-tree : goal.invariant-loop-tree
invariant-loop-tree l = record {
  walked : (before : List Tree) × Walked (λ us. price_rows (cids_in us)) (trees_of l.trees) before l.prices.items (trees_of (drop l.tree-index l.trees));
  distinct : all_distinct (cids l.prices.items) ≡ true;
  count : length l.prices.items ≡ l.tree-index;
}

use Rattle.std.proofs.Common.{◌≡◌, List, drop, true, length}
use Rattle.adx_json.specs.Tree.{Tree}
use Rattle.adx_json.specs.View.{trees_of}
use Rattle.adx_json.proofs.Listing.{Walked}
use Rattle.rtb_request.specs.Distinct.{all_distinct}
use Rattle.deal_floor.specs.Rosters.{bidder_rows}
use Rattle.deal_floor.proofs.BidderSteps.{names, names_in}
use Rattle.deal_floor.proofs.bidder_reader.bidders_of.Given as goal

-- the bidders so far are those of the trees before, and the trees that are left have the fault of all
abbrev pub invariant-loop-tree : goal.invariant-loop-tree
invariant-loop-tree l = record {
  walked : (before : List Tree) × Walked (λ us. bidder_rows (names_in us)) (trees_of l.trees) before l.bidders.items (trees_of (drop l.tree-index l.trees));
  distinct : all_distinct (names l.bidders.items) ≡ true;
  count : length l.bidders.items ≡ l.tree-index;
}

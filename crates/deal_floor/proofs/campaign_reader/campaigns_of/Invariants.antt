use Rattle.std.proofs.Common.{◌≡◌, List, drop, true, length, map}
use Rattle.adx_json.specs.Tree.{Tree}
use Rattle.adx_json.specs.View.{trees_of}
use Rattle.adx_json.proofs.Listing.{Walked}
use Rattle.deal_floor.specs.Pairs.{all_pairs_distinct, have_bidders, pair_of}
use Rattle.deal_floor.specs.Rosters.{campaign_rows}
use Rattle.deal_floor.proofs.BidderSteps.{names}
use Rattle.deal_floor.proofs.CampaignSteps.{pairs_in}
use Rattle.deal_floor.proofs.campaign_reader.campaigns_of.Given as goal

-- the campaigns so far are those of the trees before, and the trees that are left have the fault of all
abbrev pub invariant-loop-tree : goal.invariant-loop-tree
invariant-loop-tree l = record {
  walked : (before : List Tree) × Walked (λ us. campaign_rows (names l.bidders) (pairs_in us)) (trees_of l.trees) before l.campaigns (trees_of (drop l.tree-index l.trees));
  distinct : all_pairs_distinct (map pair_of l.campaigns) ≡ true;
  known : have_bidders (length l.bidders) l.campaigns ≡ true;
  count : length l.campaigns ≡ l.tree-index;
}

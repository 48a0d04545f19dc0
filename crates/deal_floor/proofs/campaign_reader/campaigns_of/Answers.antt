use Rattle.std.proofs.Common.{◌≡◌, ◌+◌, List, [], ◌∷◌, ◌++◌, map, Some, sym, ap, ◌∙◌, subst, rules, arith, length, true, drop}
use Rattle.std.proofs.lemmas.Grind.{common_steps}
use Rattle.std.proofs.lemmas.List.{drop_all}
use Rattle.adx_json.specs.Tree.{Tree}
use Rattle.adx_json.specs.View.{tree_of, trees_of}
use Rattle.adx_json.specs.Rows.{first_fault}
use Rattle.adx_json.proofs.Items.{left_is}
use Rattle.adx_json.proofs.Listing.{Walked, walk_begins, walk_on, walk_off, walk_faultless, walk_ends}
use Rattle.deal_floor.specs.Pairs.{all_pairs_distinct, have_bidders, pair_of}
use Rattle.deal_floor.specs.Rosters.{campaign_rows}
use Rattle.deal_floor.proofs.BidderSteps.{names}
use Rattle.deal_floor.proofs.CampaignSteps.{pairs_in, pairs_are, pushed_distinct, pushed_known}
use Rattle.deal_floor.proofs.campaign_reader.campaigns_of.Goals as goal

pub loop-tree-init : goal.loop-tree-init
loop-tree-init c =
    let rows = λ (us : List Tree). campaign_rows (names c.args.bidders.now) (pairs_in us) in
    let all = trees_of c.args.trees.now in
    record {
      walked = ([], subst (λ xs. Walked rows all [] xs all) (sym c.new-campaigns.ensures) (walk_begins rows all));
      distinct = search rules;
      known = search rules;
      count = search rules;
    }

pub loop-tree-preserved : goal.loop-tree-preserved
loop-tree-preserved c =
    let rows = λ (us : List Tree). campaign_rows (names c.args.bidders.now) (pairs_in us) in
    let all = trees_of c.args.trees.now in
    let before = c.loop-tree.invariant.walked.0 in
    let w = c.loop-tree.invariant.walked.1 in
    let t = tree_of c.tree-item.result in
    let x = c.in-Ok.campaign in
    let good = c.in-Ok.ensures.gives in
    let left = left_is c.args.trees.now c.loop-tree.tree-index c.tree-item.result c.loop-tree-test.true c.tree-item.is in
    let same = pairs_are (names c.args.bidders.now) before c.loop-tree.campaigns w.says in
    let rest = trees_of (drop (c.loop-tree.tree-index + 1) c.args.trees.now) in
    record {
      walked = (
        before ++ t ∷ [],
        subst (λ xs. Walked rows all (before ++ t ∷ []) xs rest) (sym c.in_ok-push.ensures)
            (walk_on rows all before c.loop-tree.campaigns _ rest t x left (ap (λ ns. first_fault (campaign_rows (names c.args.bidders.now) ns) (Some t)) same ∙ good.0) good.1 w),
      );
      distinct = subst (λ xs. all_pairs_distinct (map pair_of xs) ≡ true) (sym c.in_ok-push.ensures) (pushed_distinct c.loop-tree.campaigns x c.loop-tree.invariant.distinct c.in-Ok.ensures.new);
      known = subst (λ xs. have_bidders (length c.args.bidders.now) xs ≡ true) (sym c.in_ok-push.ensures) (pushed_known (length c.args.bidders.now) c.loop-tree.campaigns x c.loop-tree.invariant.known c.in-Ok.ensures.known);
      count = subst (λ xs. length xs ≡ c.loop-tree.tree-index + 1) (sym c.in_ok-push.ensures) (first_of (search rules, grind (arith, common_steps)));
    }

pub returns-in-Err-clause-gives : goal.returns-in-Err-clause-gives
returns-in-Err-clause-gives c m =
    let rows = λ (us : List Tree). campaign_rows (names c.args.bidders.now) (pairs_in us) in
    let w = c.loop-tree.invariant.walked.1 in
    let t = tree_of c.tree-item.result in
    let left = left_is c.args.trees.now c.loop-tree.tree-index c.tree-item.result c.loop-tree-test.true c.tree-item.is in
    let same = pairs_are (names c.args.bidders.now) c.loop-tree.invariant.walked.0 c.loop-tree.campaigns w.says in
    walk_off rows (trees_of c.args.trees.now) c.loop-tree.invariant.walked.0 c.loop-tree.campaigns _ _ t c.in-Err.fault left
    (ap (λ ns. first_fault (campaign_rows (names c.args.bidders.now) ns) (Some t)) same ∙ c.in-Err.ensures.gives m) w

pub returns-clause-gives : goal.returns-clause-gives
returns-clause-gives c =
    let rows = λ (us : List Tree). campaign_rows (names c.args.bidders.now) (pairs_in us) in
    let all = trees_of c.args.trees.now in
    let w = c.loop-tree.invariant.walked.1 in
    let end = ap trees_of (drop_all c.loop-tree.tree-index c.args.trees.now c.loop-tree-test.false) in
    (walk_faultless rows all _ _ _ end w, walk_ends rows all _ _ _ end w)

use Rattle.std.proofs.Common.{ap}
use Rattle.std.proofs.lemmas.List.{drop_all}
use Rattle.adx_json.specs.View.{tree_of, trees_of}
use Rattle.adx_json.proofs.Items.{left_is}
use Rattle.rtb_request.proofs.DealSteps.{kept_on, kept_off, kept_last}
use Rattle.rtb_request.proofs.deal_reader.deals_of.Goals as goal

pub loop-tree-preserved : goal.loop-tree-preserved
loop-tree-preserved c =
    let left = left_is c.args.trees.now c.loop-tree.tree-index c.tree-item.result c.loop-tree-test.true c.tree-item.is in
    let good = c.in-Ok.ensures.gives in
    kept_on (trees_of c.args.trees.now) _ _ _ _ _ _ (tree_of c.tree-item.result) c.in-Ok.found left good.0 good.1 c.in-Ok.ensures.ids c.in_ok-put_in.ensures c.loop-tree.invariant

pub returns-in-Err-clause-gives : goal.returns-in-Err-clause-gives
returns-in-Err-clause-gives c m =
    let left = left_is c.args.trees.now c.loop-tree.tree-index c.tree-item.result c.loop-tree-test.true c.tree-item.is in
    kept_off (trees_of c.args.trees.now) _ _ _ _ (tree_of c.tree-item.result) c.in-Err.fault left (c.in-Err.ensures.gives m) c.loop-tree.invariant

pub returns-clause-gives : goal.returns-clause-gives
returns-clause-gives c = kept_last (trees_of c.args.trees.now) _ _ _ (ap trees_of (drop_all c.loop-tree.tree-index c.args.trees.now c.loop-tree-test.false)) c.loop-tree.invariant

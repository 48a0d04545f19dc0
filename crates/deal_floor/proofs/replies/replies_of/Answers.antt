use Rattle.std.proofs.Common.{ap, ◌∙◌, ◌+◌, length}
use Rattle.adx_json.specs.View.{tree_of}
use Rattle.std.proofs.lemmas.List.{length-append}
use Rattle.adx_json.proofs.Items.{left_is}
use Rattle.deal_floor.proofs.ReplySteps.{reply_kept}
use Rattle.deal_floor.proofs.replies.replies_of.Goals as goal

pub loop-tree-preserved : goal.loop-tree-preserved
loop-tree-preserved c =
    let left = left_is c.args.trees.now c.loop-tree.tree-index c.tree-item.result c.loop-tree-test.true c.tree-item.is in
    record {
      texts = reply_kept _ _ _ (tree_of c.tree-item.result) _ _ left c.in_ok-texts.ensures c.in_ok-push.ensures.items ∙ c.loop-tree.invariant.texts;
      count = ap length c.in_ok-push.ensures.items ∙ length-append _ _ ∙ ap (λ n. n + 1) c.loop-tree.invariant.count;
    }

-- One more answer.
use Rattle.script_lines.specs.Meanings.{GivesAnswer}
use Rattle.adx_json.proofs.Listing.{read_more}
use Rattle.script_lines.proofs.ask.answers_of.Goals as goal

pub loop-tree-preserved : goal.loop-tree-preserved
loop-tree-preserved c =
    read_more (GivesAnswer c.args.auction.now) c.args.trees.now c.loop-tree.tree-index c.tree-item.result c.loop-tree.answers.items c.push.new.self.items c.in_ok-answer_of.field-0
    c.loop-tree-test.true c.tree-item.is c.in_ok-push.ensures.items c.loop-tree.invariant c.in_ok-answer_of.ensures

use Rattle.std.proofs.Common.{Some}
use Rattle.adx_json.specs.Rows.{Says}
use Rattle.rtb_response.specs.Bids.{bid_rows}
use Rattle.adx_json.proofs.Listing.{read_more}
use Rattle.rtb_response.proofs.answer_reader.bids_of.Goals as goal

pub loop-tree-preserved : goal.loop-tree-preserved
loop-tree-preserved c =
    read_more (λ t x. Says bid_rows (Some t) x) c.args.trees.now c.loop-tree.tree-index c.tree-item.result c.loop-tree.bids.items c.push.new.self.items c.in_ok-bid_of.field-0
    c.loop-tree-test.true c.tree-item.is (c.in_ok-push.ensures {u = tt}).items c.loop-tree.invariant (c.in_ok-bid_of.ensures {u = tt})

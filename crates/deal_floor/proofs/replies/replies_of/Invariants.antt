use Rattle.std.proofs.Common.{◌≡◌, ◌++◌, drop, map, length}
use Rattle.adx_json.specs.View.{trees_of}
use Rattle.deal_floor.proofs.ReplySteps.{texts_of}
use Rattle.deal_floor.proofs.replies.replies_of.Given as goal

-- the lists so far and those of the trees that are left are those of all trees
abbrev pub invariant-loop-tree : goal.invariant-loop-tree
invariant-loop-tree l =
    record {
      texts : l.replies.items ++ map texts_of (trees_of (drop l.tree-index l.trees)) ≡ map texts_of (trees_of l.trees);
      count : length l.replies.items ≡ l.tree-index;
    }

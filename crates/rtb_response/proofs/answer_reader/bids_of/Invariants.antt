use Rattle.std.proofs.Common.{Some, take}
use Rattle.std.specs.List.{AllZip}
use Rattle.adx_json.specs.Rows.{Says}
use Rattle.adx_json.specs.View.{trees_of}
use Rattle.rtb_response.specs.Bids.{bid_rows}
use Rattle.rtb_response.proofs.answer_reader.bids_of.Given as goal

-- what was read so far is what the trees so far say
abbrev pub invariant-loop-tree : goal.invariant-loop-tree
invariant-loop-tree l = AllZip (λ t x. Says bid_rows (Some t) x) (trees_of (take l.tree-index l.trees)) l.bids.items

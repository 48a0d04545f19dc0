-- So many bidders have their lanes.
use Rattle.std.proofs.Common.{◌≡◌, map, take, All}
use Rattle.fan_out.specs.declared.lane.Lane.{Lane}
use Rattle.fan_out.specs.declared.answer.TheConstants.{ANSWER_LIMIT}
use Rattle.shared_serving_tests.specs.declared.links.Waiting.{Waiting}
use Rattle.shared_serving_tests.proofs.links.lanes_of.Given as goal

abbrev pub invariant-loop-place : goal.invariant-loop-place
invariant-loop-place l = record {
  places : map (λ (x : Lane Waiting). x.place) l.lanes.items ≡ take l.place-index l.bidders;
  limits : All (λ (x : Lane Waiting). x.conn.limit ≡ ANSWER_LIMIT) l.lanes.items;
}

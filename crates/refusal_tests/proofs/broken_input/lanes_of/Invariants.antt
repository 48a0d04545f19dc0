-- So many bidders have their lanes.
use Rattle.std.proofs.Common.{◌≡◌, map, take, All}
use Rattle.adx_links.specs.MemoryLinks.{MemoryLinkState}
use Rattle.fan_out.specs.declared.lane.Lane.{Lane}
use Rattle.fan_out.specs.declared.answer.TheConstants.{ANSWER_LIMIT}
use Rattle.refusal_tests.proofs.broken_input.lanes_of.Given as goal

abbrev pub invariant-loop-place : goal.invariant-loop-place
invariant-loop-place l = record {
  places : map (λ (x : Lane MemoryLinkState). x.place) l.lanes.items ≡ take l.place-index l.bidders;
  limits : All (λ (x : Lane MemoryLinkState). x.conn.limit ≡ ANSWER_LIMIT) l.lanes.items;
}

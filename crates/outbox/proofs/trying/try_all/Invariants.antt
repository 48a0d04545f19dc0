use Rattle.std.proofs.Common.{◌≡◌, ◌+◌, ◌≤◌, length, take, vec_capacity, vec_len}
use Rattle.outbox.specs.Pumping.{AreTried}
use Rattle.outbox.proofs.trying.try_all.Given as goal

abbrev pub invariant-loop-post : goal.invariant-loop-post
invariant-loop-post g l = record {
  long : length l.outcomes.items ≡ l.post-index;
  tried : AreTried g.L.Link.exchanges g.L.Link.course g.L.Link.faults g.L.Link.place l.fn.conn.limit (take l.post-index l.posts) l.outcomes.items l.fn.link l.link;
  limit : l.conn.limit ≡ l.fn.conn.limit;
  room : vec_len l.outcomes + length l.posts ≤ vec_capacity l.outcomes + l.post-index;
}

use Rattle.std.proofs.Common.{◌≡◌, ◌≤◌, ℕ, length}
use Rattle.bid_record.specs.Texts.{body_at}
use Rattle.bid_record.proofs.Bodies.{with_front}
use Rattle.bid_record.proofs.text.body.Given as goal

abbrev pub invariant-body : goal.invariant-body
invariant-body l = (n : ℕ) × (length l.left ≤ n) × (with_front l.text.items (body_at n l.left) ≡ body_at (length l.bytes) l.bytes)

abbrev pub decreases-body : goal.decreases-body
decreases-body l = length l.left

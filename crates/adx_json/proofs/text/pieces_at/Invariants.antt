use Rattle.std.proofs.Common.{length, string_bytes}
use Rattle.adx_json.proofs.TextParts.{TextSoFar}
use Rattle.adx_json.proofs.text.pieces_at.Given as goal

abbrev pub invariant-pieces : goal.invariant-pieces
invariant-pieces l = TextSoFar l.bytes (string_bytes l.out) l.waiting l.left

abbrev pub decreases-pieces : goal.decreases-pieces
decreases-pieces l = length l.left

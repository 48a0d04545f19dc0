use Rattle.std.specs.Prelude.{◌≡◌, ◌+◌, vec_len}
use Rattle.adx_links.proofs.serving.gather.Given as goal

abbrev pub invariant-loop-end : goal.invariant-loop-end
invariant-loop-end g l =
    (l.taken.parts + vec_len l.ends ≡ l.fn.taken.parts + vec_len l.fn.ends) × (l.given.parts + vec_len l.ends ≡ l.fn.given.parts + vec_len l.fn.ends)
    × (l.taken.amount ≡ l.given.amount)

abbrev pub decreases-loop-end : goal.decreases-loop-end
decreases-loop-end g l = vec_len l.ends

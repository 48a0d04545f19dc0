use Rattle.std.specs.Prelude.{◌≡◌, ◌+◌, vec_len}
use Rattle.adx_links.proofs.serving.jobs_of.Given as goal

-- a part of both ledgers is there for each worker that is left
abbrev pub invariant-loop-worker : goal.invariant-loop-worker
invariant-loop-worker g l =
    (l.taken.parts ≡ vec_len l.workers + 1) × (l.taken.amount ≡ 0) × (l.given.parts ≡ vec_len l.workers + 1) × (l.given.amount ≡ 0)
    × (vec_len l.jobs + vec_len l.workers ≡ vec_len l.fn.workers)

abbrev pub decreases-loop-worker : goal.decreases-loop-worker
decreases-loop-worker g l = vec_len l.workers

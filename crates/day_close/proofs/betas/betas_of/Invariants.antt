use Rattle.std.proofs.Common.{◌≡◌, ◌<◌, ℕ, vec_len, get_or, []}
use Rattle.dual_cert.specs.Assignments.{impressions_of}
use Rattle.day_close.specs.Closing.{IsLeastBeta}
use Rattle.day_close.proofs.betas.betas_of.Given as goal

abbrev pub invariant-loop-row : goal.invariant-loop-row
invariant-loop-row l = record {
  len : vec_len l.betas ≡ l.row-index;
  value : (k : ℕ) → k < l.row-index → IsLeastBeta l.alphas (get_or (impressions_of l.imps) k []) (get_or l.betas.items k 0);
}

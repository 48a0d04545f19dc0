use Rattle.std.proofs.Common.{◌≤◌, ◌*◌, ◌^◌, ℕ, take}
use Rattle.std.specs.List.{All}
use Rattle.dual_cert.specs.Whole.{whole}
use Rattle.dual_cert.specs.Certificates.{Covers}
use Rattle.day_close.specs.Steps.{weight}
use Rattle.day_close.proofs.betas.most_of.Given as goal

abbrev pub invariant-loop-offer : goal.invariant-loop-offer
invariant-loop-offer l = record {
  above : All (λ o. weight l.alphas o ≤ l.most) (take l.offer-index l.offers);
  least : (other : ℕ) → All (Covers l.alphas other) l.offers → l.most ≤ other * whole;
  small : l.most ≤ 10 ^ 12 * 10 ^ 9;
}

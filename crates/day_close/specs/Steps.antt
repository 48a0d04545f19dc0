-- What each step of the closer says; only private clauses cite it.
use Rattle.std.specs.Prelude.{ℕ, ◌*◌, ◌-◌, ◌≤◌, List, Option, Some, None, slice_index}
use Rattle.std.specs.List.{All}
use Rattle.bid_record.specs.declared.rows.Charge.{Charge}
use Rattle.dual_cert.specs.Whole.{whole}
use Rattle.dual_cert.specs.Assignments.{Impression, charge_for}
use Rattle.dual_cert.specs.Certificates.{Covers}

-- what a paid offer takes from a campaign
abbrev pub paid_to : ℕ → Option Charge → ℕ
paid_to campaign None = 0
paid_to campaign (Some o) = charge_for campaign o

-- the part of a charge that isn't laid on its campaign's budget, times whole
abbrev pub weight : List ℕ → Charge → ℕ
weight alphas o = o.charge.0 * (whole - slice_index alphas o.campaign)

-- the greatest of such parts: none is more, and every beta that covers all of them covers it
pub record IsMostOf (alphas : List ℕ) (offers : Impression) (most : ℕ) : Type 0 where
  pub above : All (λ o. weight alphas o ≤ most) offers
  pub least : (other : ℕ) → All (Covers alphas other) offers → most ≤ other * whole

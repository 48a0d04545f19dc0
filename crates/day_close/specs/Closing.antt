-- The closer's certificate: each alpha is what the discount has fallen by at the slab where its campaign
-- ended the day, and each beta the least that covers its impression. This project's own, after the dual
-- solution in Mehta, Saberi, Vazirani and Vazirani (JACM 2007).
use Rattle.std.specs.Prelude.{◌≡◌, ℕ, ◌-◌, ◌≤◌, ◌<◌, List, [], length, Bool, true, false, nat_le, if◌then◌else◌, Option, Some, None, slice_index, slice_index_or}
use Rattle.std.specs.List.{All, sum_by}
use Rattle.campaign_book.specs.Discount.{discount, slab_of}
use Rattle.bid_record.specs.declared.record.Record.{Record}
use Rattle.bid_record.specs.declared.rows.ImpRow.{ImpRow}
use Rattle.bid_record.specs.declared.rows.CampaignRow.{CampaignRow}
use Rattle.bid_record.specs.declared.rows.End.{End}
use Rattle.bid_record.specs.declared.rows.End.TheVariants.{Live, Billed, Lost, Expired}
use Rattle.dual_cert.specs.declared.cert.Cert.{Cert}
use Rattle.dual_cert.specs.Whole.{whole}
use Rattle.dual_cert.specs.Assignments.{Impression, impressions, picked_charge}
use Rattle.dual_cert.specs.Certificates.{HasShape, Covers, bound_of}

-- an award that is billed or has no end yet takes money from its campaign
abbrev pub takes_money : Option End → Bool
takes_money None = false
takes_money (Some Live) = true
takes_money (Some Billed) = true
takes_money (Some Lost) = false
takes_money (Some Expired) = false

-- what an impression's award takes from a campaign
abbrev pub row_money : ℕ → ImpRow → ℕ
row_money campaign row = if takes_money row.end then picked_charge campaign row.offers row.chosen else 0

-- a campaign's money in billed and open awards
abbrev pub money_in : List ImpRow → ℕ → ℕ
money_in imps campaign = sum_by (row_money campaign) imps

-- the money is within each budget, as in the record of a history
abbrev pub IsWithinBudgets : Record → Type 0
IsWithinBudgets r = (campaign : ℕ) (row : CampaignRow) → campaign < length r.campaigns → money_in r.imps campaign ≤ (slice_index_or r.campaigns campaign row).budget.0

-- the alpha of a slab: what the discount has fallen by, and all of it from slab 99 on
-- Example: 200 of 10,000 is slab 2, whose discount is 988,209,843, so that alpha is 11,790,157.
abbrev pub alpha_of : ℕ → ℕ
alpha_of slab = if nat_le 99 slab then whole else whole - discount slab

-- the alpha of a campaign's row, with so much money in its awards
abbrev pub row_alpha : CampaignRow → ℕ → ℕ
row_alpha row money = alpha_of (slab_of money row.budget.0)

-- the least beta that covers every offer of an impression
pub record IsLeastBeta (alphas : List ℕ) (offers : Impression) (beta : ℕ) : Type 0 where
  pub covers : All (Covers alphas beta) offers
  pub least : (other : ℕ) → All (Covers alphas other) offers → beta ≤ other

-- the certificate that the closer makes of a record
pub record IsClosing (r : Record) (c : Cert) : Type 0 where
  pub shape : HasShape r c
  pub alphas : (campaign : ℕ) (row : CampaignRow) → campaign < length r.campaigns
      → slice_index c.alphas campaign ≡ row_alpha (slice_index_or r.campaigns campaign row) (money_in r.imps campaign)
  pub betas : (imp : ℕ) → imp < length r.imps → IsLeastBeta c.alphas (slice_index_or (impressions r) imp []) (slice_index c.betas imp)
  pub bound : c.bound ≡ bound_of r c

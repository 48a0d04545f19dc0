-- When a certificate is one of a record: the inequalities of the dual of the linear program that
-- shares each impression among its offers, as in Mehta, Saberi, Vazirani and Vazirani (JACM 2007).
use Rattle.std.specs.Prelude.{◌≡◌, ℕ, ◌+◌, ◌-◌, ◌*◌, ◌/◌, ◌≤◌, ◌<◌, List, [], length, sum, slice_index, slice_index_or}
use Rattle.std.specs.List.{All, sum_by, enumerate_from}
use Rattle.bid_record.specs.declared.record.Record.{Record}
use Rattle.bid_record.specs.declared.rows.CampaignRow.{CampaignRow}
use Rattle.bid_record.specs.declared.rows.Charge.{Charge}
use Rattle.dual_cert.specs.declared.cert.Cert.{Cert}
use Rattle.dual_cert.specs.Whole.{whole}
use Rattle.dual_cert.specs.Assignments.{Impression, impressions}

-- the first n alphas are at most the whole
abbrev pub Fit : List ℕ → ℕ → Type 0
Fit alphas n = (campaign : ℕ) → campaign < n → slice_index alphas campaign ≤ whole

-- an alpha for each campaign and a beta for each impression
pub record HasShape (r : Record) (c : Cert) : Type 0 where
  pub alphas : length c.alphas ≡ length r.campaigns
  pub betas : length c.betas ≡ length r.imps

-- the part of an offer's charge that isn't laid on its campaign's budget, times whole, is within
-- its impression's beta, times whole
-- Example: 100 * 988,209,843 is at most 99 * 10^9, and more than 98 * 10^9.
abbrev pub Covers : List ℕ → ℕ → Charge → Type 0
Covers alphas beta o = o.charge.0 * (whole - slice_index alphas o.campaign) ≤ beta * whole

-- every offer of the first n impressions is covered, whether it was chosen or not
abbrev pub AreCovered : List ℕ → List ℕ → List Impression → ℕ → Type 0
AreCovered alphas betas imps n =
    (imp : ℕ) → imp < n → All (Covers alphas (slice_index betas imp)) (slice_index_or imps imp [])

-- the budgets, each times its campaign's alpha
-- Example: 217 + 297 = 514.
abbrev pub laid_on : List ℕ → List CampaignRow → ℕ
laid_on alphas campaigns =
    sum_by (λ (p : ℕ × CampaignRow). slice_index alphas p.0 * p.1.budget.0) (enumerate_from 0 campaigns)

-- the bound that the alphas and betas give; it is rounded down once, over all campaigns
abbrev pub bound_by : List ℕ → List ℕ → List CampaignRow → ℕ
bound_by alphas betas campaigns = laid_on alphas campaigns / whole + sum betas

abbrev pub bound_of : Record → Cert → ℕ
bound_of r c = bound_by c.alphas c.betas r.campaigns

-- the rules, in the order in which a checker tests them
pub record IsCertificate (r : Record) (c : Cert) : Type 0 where
  pub shape : HasShape r c
  pub fit : Fit c.alphas (length r.campaigns)
  pub covered : AreCovered c.alphas c.betas (impressions r) (length r.imps)
  pub bound : c.bound ≡ bound_of r c

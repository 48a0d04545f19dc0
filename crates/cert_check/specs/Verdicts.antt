-- What a checker answers to a record and a certificate: the first rule that fails.
use Rattle.std.specs.Prelude.{◌≡◌, ◌≢◌, ℕ, ◌≤◌, ◌<◌, List, [], length, slice_index, slice_index_or, take, All}
use Rattle.bid_record.specs.declared.record.Record.{Record}
use Rattle.bid_record.specs.declared.rows.Charge.{Charge}
use Rattle.dual_cert.specs.declared.cert.Cert.{Cert}
use Rattle.dual_cert.specs.Whole.{whole}
use Rattle.cert_check.specs.declared.verdict.Verdict.{Verdict}
use Rattle.cert_check.specs.declared.verdict.Verdict.TheVariants.{Accepted, Shape, Alpha, Broken, Bound}
use Rattle.dual_cert.specs.Assignments.{Impression, impressions, Assignment, earned, no_charge}
use Rattle.dual_cert.specs.Certificates.{Fit, HasShape, Covers, AreCovered, bound_of, IsCertificate}

-- the first alpha that is more than the whole is at this place
pub record IsAboveAt (alphas : List ℕ) (campaign : ℕ) : Type 0 where
  pub listed : campaign < length alphas
  pub before : Fit alphas campaign
  pub above : whole < slice_index alphas campaign

-- an impression's first offer that isn't covered is at this place
pub record IsUncoveredAt (alphas : List ℕ) (beta : ℕ) (offers : List Charge) (offer : ℕ) : Type 0 where
  pub listed : offer < length offers
  pub before : All (Covers alphas beta) (take offer offers)
  pub broken : Covers alphas beta (slice_index_or offers offer no_charge) → ⊥

-- the first offer that isn't covered is this one of this impression
pub record IsBrokenAt (alphas betas : List ℕ) (imps : List Impression) (imp offer : ℕ) : Type 0 where
  pub listed : imp < length imps
  pub before : AreCovered alphas betas imps imp
  pub here : IsUncoveredAt alphas (slice_index betas imp) (slice_index_or imps imp []) offer

-- the shape is right, and this alpha is the first that is more than the whole
pub record HasAlphaAbove (r : Record) (c : Cert) (campaign : ℕ) : Type 0 where
  pub shape : HasShape r c
  pub first : IsAboveAt c.alphas campaign

-- the shape is right, every alpha fits, and this offer is the first that isn't covered
-- Example: with beta 98 in place of 99 it is offer 1 of impression 0.
pub record HasBroken (r : Record) (c : Cert) (imp offer : ℕ) : Type 0 where
  pub shape : HasShape r c
  pub fit : Fit c.alphas (length r.campaigns)
  pub first : IsBrokenAt c.alphas c.betas (impressions r) imp offer

-- all rules hold but that of the bound
pub record IsMisstated (r : Record) (c : Cert) (stated computed : ℕ) : Type 0 where
  pub shape : HasShape r c
  pub fit : Fit c.alphas (length r.campaigns)
  pub covered : AreCovered c.alphas c.betas (impressions r) (length r.imps)
  pub said : stated ≡ c.bound
  pub given : computed ≡ bound_of r c
  pub differ : stated ≢ computed

-- the certificate is one of the record, or the verdict names the first rule that fails
abbrev pub IsVerdict : Record → Cert → Verdict → Type 0
IsVerdict r c (Accepted bound) = IsCertificate r c × (bound ≡ c.bound)
IsVerdict r c Shape = HasShape r c → ⊥
IsVerdict r c (Alpha campaign) = HasAlphaAbove r c campaign
IsVerdict r c (Broken imp offer) = HasBroken r c imp offer
IsVerdict r c (Bound stated computed) = IsMisstated r c stated computed

-- an accepted bound is one that no assignment passes
abbrev pub IsBound : Record → Verdict → Type 0
IsBound r (Accepted bound) = (picks : Assignment) → earned picks r ≤ bound
IsBound r Shape = Unit {0}
IsBound r (Alpha campaign) = Unit {0}
IsBound r (Broken imp offer) = Unit {0}
IsBound r (Bound stated computed) = Unit {0}

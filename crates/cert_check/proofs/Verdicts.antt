-- A certificate that meets the rules is accepted: each other verdict contradicts one of them.
use Rattle.std.proofs.Common.{◌≡◌, sym, ap, ◌∙◌, arith}
use Rattle.std.proofs.lemmas.List.{length-map}
use Rattle.bid_record.specs.declared.record.Record.{Record}
use Rattle.bid_record.specs.declared.rows.ImpRow.{ImpRow}
use Rattle.dual_cert.specs.declared.cert.Cert.{Cert}
use Rattle.cert_check.specs.declared.verdict.Verdict.{Verdict}
use Rattle.cert_check.specs.declared.verdict.Verdict.TheVariants.{Accepted, Shape, Alpha, Broken, Bound}
use Rattle.std.proofs.lemmas.List.Elements.{All-get_or}
use Rattle.std.proofs.Common.{get_or, length, ◌<◌, []}
use Rattle.dual_cert.specs.Assignments.{impressions, no_charge}
use Rattle.dual_cert.specs.Certificates.{IsCertificate, Covers}
use Rattle.cert_check.specs.Verdicts.{IsVerdict}

pub certificate_accepted : (r : Record) (c : Cert) (v : Verdict) → IsCertificate r c → IsVerdict r c v → v ≡ Accepted c.bound
certificate_accepted r c (Accepted bound) h told = ap Accepted told.1
certificate_accepted r c Shape h told = absurd (told h.shape)
certificate_accepted r c (Alpha campaign) h told =
    let fits = h.fit campaign (omega (arith, told.first.listed, told.shape.alphas)) in absurd (omega (arith, fits, told.first.above))
certificate_accepted r c (Broken imp offer) h told =
    let long = length-map r.imps (λ (row : ImpRow). row.offers) in
    let below : imp < length r.imps = omega (arith, told.first.listed, long) in
    absurd (told.first.here.broken (All-get_or (Covers c.alphas (get_or c.betas imp 0)) (get_or (impressions r) imp []) offer no_charge told.first.here.listed (h.covered imp below)))
certificate_accepted r c (Bound stated computed) h told = absurd (told.differ (told.said ∙ h.bound ∙ sym told.given))

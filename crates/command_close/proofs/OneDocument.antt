-- A history has one document: its record is one, and the record's certificate.
use Rattle.std.proofs.Common.{◌≡◌, ◌∙◌, ℕ, ◌<◌, List, [], ◌∷◌, ◌++◌, length, slice_index, slice_index_or, sym, ap, ap₂, subst}
use Rattle.std.specs.List.{flat_map}
use Rattle.bid_record.specs.Lines.{document, end_line, rows_lines}
use Rattle.bid_record.specs.Refusals.{AreSame}
use Rattle.bid_record.specs.declared.record.Record.{Record}
use Rattle.bid_record.specs.declared.rows.CampaignRow.{CampaignRow}
use Rattle.bid_record.specs.declared.rows.ImpRow.{ImpRow}
use Rattle.day_close.specs.Closing.{IsClosing, IsLeastBeta, money_in, row_alpha}
use Rattle.day_close.proofs.OneClosing.{same_certs}
use Rattle.dual_cert.specs.Lines.{document as cert_document}
use Rattle.dual_cert.specs.declared.cert.Cert.{Cert}
use Rattle.formats.specs.Parts.{ended}
use Rattle.dual_cert.specs.Assignments.{impressions_of}
use Rattle.dual_cert.specs.Certificates.{bound_by}
use Rattle.served_record.proofs.OneRecord.{same_records}
use Rattle.command_close.specs.ClosedDays.{HasOneDocument}

-- the document by the parts of a record
abbrev document_by : ℕ → List ℕ → List CampaignRow → List ImpRow → List ℕ
document_by format day campaigns imps = flat_map ended (rows_lines format day campaigns imps ++ end_line (length imps) ∷ [])

same_documents : (d e : Record) → AreSame d e → document d ≡ document e
same_documents d e same =
    ap (λ (format : ℕ). document_by format d.day d.campaigns d.imps) same.format
    ∙ ap (λ (day : List ℕ). document_by e.format day d.campaigns d.imps) same.day
    ∙ ap₂ (λ (campaigns : List CampaignRow) (imps : List ImpRow). document_by e.format e.day campaigns imps) same.campaigns same.imps

-- the closer's certificate by the rows of a record
record ClosesRows (campaigns : List CampaignRow) (imps : List ImpRow) (c : Cert) : Type 0 where
  pub each_campaign : length c.alphas ≡ length campaigns
  pub each_imp : length c.betas ≡ length imps
  pub alphas : (campaign : ℕ) (row : CampaignRow) → campaign < length campaigns → slice_index c.alphas campaign ≡ row_alpha (slice_index_or campaigns campaign row) (money_in imps campaign)
  pub betas : (imp : ℕ) → imp < length imps → IsLeastBeta c.alphas (slice_index_or (impressions_of imps) imp []) (slice_index c.betas imp)
  pub bound : c.bound ≡ bound_by c.alphas c.betas campaigns

-- what closes a record closes every one with the same rows
pub same_closing : (d e : Record) (c : Cert) → AreSame d e → IsClosing e c → IsClosing d c
same_closing d e c same is =
    let by_e : ClosesRows e.campaigns e.imps c = record {
      each_campaign = is.shape.alphas;
      each_imp = is.shape.betas;
      alphas = is.alphas;
      betas = is.betas;
      bound = is.bound;
    } in
    let by_d : ClosesRows d.campaigns d.imps c =
    subst (λ (campaigns : List CampaignRow). ClosesRows campaigns d.imps c) (sym same.campaigns)
    (subst (λ (imps : List ImpRow). ClosesRows e.campaigns imps c) (sym same.imps) by_e) in
    record {
      shape = record { alphas = by_d.each_campaign; betas = by_d.each_imp };
      alphas = by_d.alphas;
      betas = by_d.betas;
      bound = by_d.bound;
    }

pub one_document : HasOneDocument
one_document r history out other a b =
    let same : AreSame a.day b.day = same_records r.day r.campaigns history a.day b.day a.served b.served in
    let certs : a.cert ≡ b.cert = same_certs a.day a.cert b.cert a.closing (same_closing a.day b.day b.cert same b.closing) in
    a.spelled ∙ ap₂ (λ (x y : List ℕ). x ++ y) (same_documents a.day b.day same) (ap cert_document certs) ∙ sym b.spelled

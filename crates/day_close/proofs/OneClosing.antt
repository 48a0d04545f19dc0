-- A record has one certificate of the closer's: each of its numbers is fixed.
use Rattle.std.proofs.Common.{◌≡◌, ℕ, ◌<◌, List, [], length, get_or, sym, ap₂, ◌∙◌, subst, arith}
use Rattle.std.proofs.lemmas.List.{ext_get_or}
use Rattle.bid_record.specs.declared.record.Record.{Record}
use Rattle.dual_cert.specs.declared.cert.Cert.{Cert}
use Rattle.dual_cert.specs.Assignments.{Impression, impressions}
use Rattle.dual_cert.specs.Certificates.{bound_by}
use Rattle.day_close.specs.Choosing.{no_campaign}
use Rattle.day_close.specs.Closing.{IsClosing, IsLeastBeta}

same_alphas : (r : Record) (c d : Cert) → IsClosing r c → IsClosing r d → c.alphas ≡ d.alphas
same_alphas r c d h k =
    ext_get_or 0 c.alphas d.alphas (h.shape.alphas ∙ sym k.shape.alphas)
    (λ i below.
    let listed : i < length r.campaigns = omega (arith, below, h.shape.alphas) in
    h.alphas i no_campaign listed ∙ sym (k.alphas i no_campaign listed))

-- the least beta that covers is one
least_once : (alphas : List ℕ) (offers : Impression) (a b : ℕ) → IsLeastBeta alphas offers a → IsLeastBeta alphas offers b → a ≡ b
least_once alphas offers a b h k = let under = h.least b k.covers in let over = k.least a h.covers in omega arith

same_betas : (r : Record) (c d : Cert) → IsClosing r c → IsClosing r d → c.betas ≡ d.betas
same_betas r c d h k =
    ext_get_or 0 c.betas d.betas (h.shape.betas ∙ sym k.shape.betas)
    (λ i below.
    let listed : i < length r.imps = omega (arith, below, h.shape.betas) in
    let offers : Impression = get_or (impressions r) i [] in
    least_once c.alphas offers (get_or c.betas i 0) (get_or d.betas i 0) (h.betas i listed)
    (subst (λ (xs : List ℕ). IsLeastBeta xs offers (get_or d.betas i 0)) (sym (same_alphas r c d h k)) (k.betas i listed)))

pub same_certs : (r : Record) (c d : Cert) → IsClosing r c → IsClosing r d → c ≡ d
same_certs r c d h k =
    let alphas = same_alphas r c d h k in
    let betas = same_betas r c d h k in
    let bound : c.bound ≡ d.bound = h.bound ∙ (ap₂ (λ (xs ys : List ℕ). bound_by xs ys r.campaigns) alphas betas ∙ sym k.bound) in
    cert_of c d alphas betas bound
  where
    cert_of : (c d : Cert) → c.alphas ≡ d.alphas → c.betas ≡ d.betas → c.bound ≡ d.bound → c ≡ d
    cert_of c d a b n = λ i. record { alphas = a i; betas = b i; bound = n i }

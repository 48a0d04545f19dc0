-- A record and a certificate have one verdict.
use Rattle.std.proofs.Common.{◌≡◌, inl, inr, ℕ, ◌<◌, List, [], length, take, get_or, refl, sym, ap, ap₂, ◌∙◌, subst, arith}
use Rattle.std.proofs.lemmas.Bool.{cases_lt}
use Rattle.std.proofs.lemmas.List.{get_or-take, length-map, length-take}
use Rattle.std.proofs.lemmas.List.Elements.{All-get_or}
use Rattle.bid_record.specs.declared.record.Record.{Record}
use Rattle.bid_record.specs.declared.rows.Charge.{Charge}
use Rattle.bid_record.specs.declared.rows.ImpRow.{ImpRow}
use Rattle.cert_check.specs.Verdicts.{IsAboveAt, IsBrokenAt, IsUncoveredAt, IsVerdict}
use Rattle.cert_check.specs.declared.verdict.Verdict.{Verdict}
use Rattle.cert_check.proofs.Verdicts.{certificate_accepted}
use Rattle.dual_cert.specs.declared.cert.Cert.{Cert}
use Rattle.dual_cert.specs.Assignments.{Impression, impressions, no_charge}
use Rattle.dual_cert.specs.Certificates.{AreCovered, Covers}

one_above : (alphas : List ℕ) (i j : ℕ) → IsAboveAt alphas i → IsAboveAt alphas j → i ≡ j
one_above alphas i j a b = elim (cases_lt i j) [
  | inl less ↦ let fits = b.before i less in absurd (omega (arith, fits, a.above))
  | inr more ↦ elim (cases_lt j i) [
    | inl less ↦ let fits = a.before j less in absurd (omega (arith, fits, b.above))
    | inr least ↦ omega (arith, more, least)
  ]
]

-- an offer in front of the first that isn't covered is covered
covered_before : (alphas : List ℕ) (beta : ℕ) (offers : List Charge) (o p : ℕ) → IsUncoveredAt alphas beta offers o → IsUncoveredAt alphas beta offers p → o < p → ⊥
covered_before alphas beta offers o p a b less =
    let within : o < length (take p offers) = omega (arith, less, a.listed, length-take p offers) in
    a.broken (subst (Covers alphas beta) (get_or-take p offers o no_charge less) (All-get_or (Covers alphas beta) (take p offers) o no_charge within b.before))

one_uncovered : (alphas : List ℕ) (beta : ℕ) (offers : List Charge) (o p : ℕ) → IsUncoveredAt alphas beta offers o → IsUncoveredAt alphas beta offers p → o ≡ p
one_uncovered alphas beta offers o p a b = elim (cases_lt o p) [
  | inl less ↦ absurd (covered_before alphas beta offers o p a b less)
  | inr more ↦ elim (cases_lt p o) [
    | inl less ↦ absurd (covered_before alphas beta offers p o b a less)
    | inr least ↦ omega (arith, more, least)
  ]
]

-- a covered impression isn't broken
not_broken : (alphas betas : List ℕ) (imps : List Impression) (n imp offer : ℕ) → AreCovered alphas betas imps n → imp < n → IsBrokenAt alphas betas imps imp offer → ⊥
not_broken alphas betas imps n imp offer covered below broken =
    broken.here.broken (All-get_or (Covers alphas (get_or betas imp 0)) (get_or imps imp []) offer no_charge broken.here.listed (covered imp below))

one_imp : (alphas betas : List ℕ) (imps : List Impression) (i j o p : ℕ) → IsBrokenAt alphas betas imps i o → IsBrokenAt alphas betas imps j p → i ≡ j
one_imp alphas betas imps i j o p a b = elim (cases_lt i j) [
  | inl less ↦ absurd (not_broken alphas betas imps j i o b.before less a)
  | inr more ↦ elim (cases_lt j i) [
    | inl less ↦ absurd (not_broken alphas betas imps i j p a.before less b)
    | inr least ↦ omega (arith, more, least)
  ]
]

one_broken : (alphas betas : List ℕ) (imps : List Impression) (i j o p : ℕ) → IsBrokenAt alphas betas imps i o → IsBrokenAt alphas betas imps j p → (i ≡ j) × (o ≡ p)
one_broken alphas betas imps i j o p a b =
    let imp = one_imp alphas betas imps i j o p a b in
    let moved = subst (λ (k : ℕ). IsBrokenAt alphas betas imps k p) (sym imp) b in
    (imp, one_uncovered alphas (get_or betas i 0) (get_or imps i []) o p a.here moved.here)

all_covered : (r : Record) (c : Cert) (imp offer : ℕ) → AreCovered c.alphas c.betas (impressions r) (length r.imps) → IsBrokenAt c.alphas c.betas (impressions r) imp offer → ⊥
all_covered r c imp offer covered broken =
    let long = length-map r.imps (λ (row : ImpRow). row.offers) in
    not_broken c.alphas c.betas (impressions r) (length r.imps) imp offer covered (omega (arith, broken.listed, long)) broken

pub one_verdict : (r : Record) (c : Cert) (v w : Verdict) → IsVerdict r c v → IsVerdict r c w → v ≡ w
one_verdict r c (Verdict.Accepted bound) w a b = ap (λ (n : ℕ). Verdict.Accepted n) a.1 ∙ sym (certificate_accepted r c w a.0 b)
one_verdict r c Verdict.Shape (Verdict.Accepted bound) a b = absurd (a b.0.shape)
one_verdict r c Verdict.Shape Verdict.Shape a b = refl
one_verdict r c Verdict.Shape (Verdict.Alpha campaign) a b = absurd (a b.shape)
one_verdict r c Verdict.Shape (Verdict.Broken imp offer) a b = absurd (a b.shape)
one_verdict r c Verdict.Shape (Verdict.Bound stated computed) a b = absurd (a b.shape)
one_verdict r c (Verdict.Alpha campaign) (Verdict.Accepted bound) a b = certificate_accepted r c (Verdict.Alpha campaign) b.0 a ∙ sym (ap (λ (n : ℕ). Verdict.Accepted n) b.1)
one_verdict r c (Verdict.Alpha campaign) Verdict.Shape a b = absurd (b a.shape)
one_verdict r c (Verdict.Alpha campaign) (Verdict.Alpha other) a b = ap (λ (n : ℕ). Verdict.Alpha n) (one_above c.alphas campaign other a.first b.first)
one_verdict r c (Verdict.Alpha campaign) (Verdict.Broken imp offer) a b =
    let fits = b.fit campaign (omega (arith, a.first.listed, a.shape.alphas)) in absurd (omega (arith, fits, a.first.above))
one_verdict r c (Verdict.Alpha campaign) (Verdict.Bound stated computed) a b =
    let fits = b.fit campaign (omega (arith, a.first.listed, a.shape.alphas)) in absurd (omega (arith, fits, a.first.above))
one_verdict r c (Verdict.Broken imp offer) (Verdict.Accepted bound) a b = certificate_accepted r c (Verdict.Broken imp offer) b.0 a ∙ sym (ap (λ (n : ℕ). Verdict.Accepted n) b.1)
one_verdict r c (Verdict.Broken imp offer) Verdict.Shape a b = absurd (b a.shape)
one_verdict r c (Verdict.Broken imp offer) (Verdict.Alpha campaign) a b =
    let fits = a.fit campaign (omega (arith, b.first.listed, b.shape.alphas)) in absurd (omega (arith, fits, b.first.above))
one_verdict r c (Verdict.Broken imp offer) (Verdict.Broken other place) a b =
    let same = one_broken c.alphas c.betas (impressions r) imp other offer place a.first b.first in
    ap₂ (λ (i o : ℕ). Verdict.Broken i o) same.0 same.1
one_verdict r c (Verdict.Broken imp offer) (Verdict.Bound stated computed) a b = absurd (all_covered r c imp offer b.covered a.first)
one_verdict r c (Verdict.Bound stated computed) (Verdict.Accepted bound) a b = certificate_accepted r c (Verdict.Bound stated computed) b.0 a ∙ sym (ap (λ (n : ℕ). Verdict.Accepted n) b.1)
one_verdict r c (Verdict.Bound stated computed) Verdict.Shape a b = absurd (b a.shape)
one_verdict r c (Verdict.Bound stated computed) (Verdict.Alpha campaign) a b =
    let fits = a.fit campaign (omega (arith, b.first.listed, b.shape.alphas)) in absurd (omega (arith, fits, b.first.above))
one_verdict r c (Verdict.Bound stated computed) (Verdict.Broken imp offer) a b = absurd (all_covered r c imp offer a.covered b.first)
one_verdict r c (Verdict.Bound stated computed) (Verdict.Bound other sum) a b = ap₂ (λ (s k : ℕ). Verdict.Bound s k) (a.said ∙ sym b.said) (a.given ∙ sym b.given)

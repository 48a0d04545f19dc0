-- Weak duality: where the rules hold, no assignment earns more than the bound.
use Rattle.std.proofs.Common.{◌≡◌, ℕ, suc, ◌+◌, ◌-◌, ◌*◌, ◌/◌, ◌<◌, ◌≤◌, min, List, [], ◌∷◌, length, get_or, sym, ap, ◌∙◌, subst, arith, Option, Some, None, inl, inr, lit<}
use Rattle.std.specs.List.{All, sum, sum_by, enumerate_from}
use Rattle.std.proofs.lemmas.List.Sums.{sum_by-cons, sum_by-le-sum_by}
use Rattle.std.proofs.lemmas.List.Elements.{All-get_or}
use Rattle.std.proofs.lemmas.List.{get_or_past, length-map}
use Rattle.std.proofs.lemmas.Nat.{le-div}
use Rattle.std.proofs.lemmas.Bool.{cases_lt}
use Rattle.std.proofs.Math.Nat.{mul-le-mul_left, min-le_left, min-le_right, add-mul-div_right}
use Rattle.bid_record.specs.declared.record.Record.{Record}
use Rattle.bid_record.specs.declared.rows.CampaignRow.{CampaignRow}
use Rattle.bid_record.specs.declared.rows.Charge.{Charge}
use Rattle.bid_record.specs.declared.rows.ImpRow.{ImpRow}
use Rattle.dual_cert.specs.declared.cert.Cert.{Cert}
use Rattle.dual_cert.specs.Whole.{whole}
use Rattle.dual_cert.specs.Assignments.{Impression, impressions, Assignment, no_charge, picked_charge, assigned, earned}
use Rattle.dual_cert.specs.Certificates.{laid_on, IsCertificate}
use Rattle.dual_cert.proofs.Lists.{sum_by-zero_always, sum_by-both, sum_by-always, sum_by-times, weight_once}

-- a part a of s times one number, and the rest of s times another that isn't less: at least s times the first
parts_cover : (s a m x y : ℕ) → m ≤ x → m ≤ y → s * m ≤ a * x + (s - a) * y
parts_cover s a m x y hx hy =
    let one : a * m ≤ a * x = mul-le-mul_left a hx in
    let two : (s - a) * m ≤ (s - a) * y = mul-le-mul_left (s - a) hy in
    let whole : s ≤ a + (s - a) = omega arith in
    let three : m * s ≤ m * (a + (s - a)) = mul-le-mul_left m whole in
    let four : m * (a + (s - a)) ≡ a * m + (s - a) * m = omega arith in
    omega (arith, one, two, three, four)

-- the lesser of budget and charges, split by a part a of a whole s
pub split : (s a budget charges : ℕ) → s * min budget charges ≤ a * budget + (s - a) * charges
split s a budget charges =
    parts_cover s a (min budget charges) budget charges (min-le_left budget charges) (min-le_right budget charges)

-- the picked offer's charge, or 0 where none is there, is covered as all offers are
covered_at : (w : ℕ → ℕ) (most : ℕ) (offers : List Charge) (place : ℕ) → All (λ (o : Charge). o.charge.0 * w o.campaign ≤ most) offers → (get_or offers place no_charge).charge.0 * w (get_or offers place no_charge).campaign ≤ most
covered_at w most offers place h =
    elim (cases_lt place (length offers)) [
      | inl below ↦ All-get_or (λ (o : Charge). o.charge.0 * w o.campaign ≤ most) offers place no_charge below h
      | inr past ↦
          let is : get_or offers place no_charge ≡ no_charge = get_or_past offers place no_charge past in
          subst (λ (o : Charge). o.charge.0 * w o.campaign ≤ most) (sym is) (omega arith)
    ]

-- over all campaigns, an impression's picked offer weighs at most what covers each of its offers
one_impression : {X : Type 0} (w : ℕ → ℕ) (most : ℕ) (cs : List X) (offers : List Charge) (pick : Option ℕ) → All (λ (o : Charge). o.charge.0 * w o.campaign ≤ most) offers → sum_by (λ (p : ℕ × X). w p.0 * picked_charge p.0 offers pick) (enumerate_from 0 cs) ≤ most
one_impression {X} w most cs offers None h =
    let none = sum_by-zero_always (λ (p : ℕ × X). w p.0 * 0) (enumerate_from 0 cs) (λ p. omega arith) in omega (arith, none)
one_impression {X} w most cs offers (Some place) h =
    let o : Charge = get_or offers place no_charge in
    let once = weight_once w o.campaign o.charge.0 0 cs in
    let most_of = covered_at w most offers place h in
    omega (arith, once, most_of)

-- over all campaigns and impressions
all_impressions : {X : Type 0} (w : ℕ → ℕ) (s : ℕ) (cs : List X) (picks : Assignment) (n : ℕ) (imps : List Impression) (betas : List ℕ) → length betas ≡ length imps → ((j : ℕ) → j < length imps → All (λ (o : Charge). o.charge.0 * w o.campaign ≤ get_or betas j 0 * s) (get_or imps j [])) → sum_by (λ (p : ℕ × X). w p.0 * sum_by (λ (q : ℕ × Impression). picked_charge p.0 q.1 (picks q.0)) (enumerate_from n imps)) (enumerate_from 0 cs) ≤ sum betas * s
all_impressions {X} w s cs picks n [] [] e h =
    let none = sum_by-zero_always (λ (p : ℕ × X). w p.0 * 0) (enumerate_from 0 cs) (λ p. omega arith) in omega (arith, none)
all_impressions w s cs picks n [] (b ∷ bs) e h = absurd (omega arith)
all_impressions w s cs picks n (o ∷ os) [] e h = absurd (omega arith)
all_impressions {X} w s cs picks n (o ∷ os) (b ∷ bs) e h =
    let now : ℕ × X → ℕ = λ p. w p.0 * picked_charge p.0 o (picks n) in
    let later : ℕ × X → ℕ = λ p. w p.0 * sum_by (λ (q : ℕ × Impression). picked_charge p.0 q.1 (picks q.0)) (enumerate_from (n + 1) os) in
    let all : ℕ × X → ℕ = λ p. w p.0 * sum_by (λ (q : ℕ × Impression). picked_charge p.0 q.1 (picks q.0)) (enumerate_from n (o ∷ os)) in
    let apart : sum_by all (enumerate_from 0 cs) ≡ sum_by (λ p. now p + later p) (enumerate_from 0 cs) =
    sum_by-always all (λ p. now p + later p) (enumerate_from 0 cs) (λ p.
    let step = sum_by-cons (λ (q : ℕ × Impression). picked_charge p.0 q.1 (picks q.0)) (n, o) (enumerate_from (n + 1) os) in
    let scaled = ap (λ (m : ℕ). w p.0 * m) step in omega (arith, scaled)) in
    let both = sum_by-both now later (enumerate_from 0 cs) in
    let first : sum_by now (enumerate_from 0 cs) ≤ b * s = one_impression w (b * s) cs o (picks n) (h 0 (omega arith)) in
    let short : length bs ≡ length os = omega arith in
    let rest : sum_by later (enumerate_from 0 cs) ≤ sum bs * s =
    all_impressions w s cs picks (n + 1) os bs short (λ j below. h (suc j) (omega arith)) in
    let total = ap (λ (m : ℕ). m * s) (sum_by-cons (λ (x : ℕ). x) b bs) in
    omega (arith, apart, both, first, rest, total)

-- every assignment earns at most the bound of a certificate; that alphas are at most the whole isn't needed
pub weak_duality : (r : Record) (c : Cert) (picks : Assignment) → IsCertificate r c → earned picks r ≤ c.bound
weak_duality r c picks h =
    let given : ℕ → ℕ = assigned picks (impressions r) in
    let w : ℕ → ℕ = λ i. whole - get_or c.alphas i 0 in
    let rows : List (ℕ × CampaignRow) = enumerate_from 0 r.campaigns in
    let least : ℕ × CampaignRow → ℕ = λ p. min p.1.budget.0 (given p.0) in
    let on_budget : ℕ × CampaignRow → ℕ = λ p. get_or c.alphas p.0 0 * p.1.budget.0 in
    let on_imps : ℕ × CampaignRow → ℕ = λ p. w p.0 * given p.0 in
    let scaled : sum_by (λ p. whole * least p) rows ≡ whole * sum_by least rows = sum_by-times whole least rows in
    let parted : sum_by (λ p. whole * least p) rows ≤ sum_by (λ p. on_budget p + on_imps p) rows =
    sum_by-le-sum_by (λ p. whole * least p) (λ p. on_budget p + on_imps p) rows
    (λ p. split whole (get_or c.alphas p.0 0) p.1.budget.0 (given p.0)) in
    let both = sum_by-both on_budget on_imps rows in
    let long : length (impressions r) ≡ length r.imps = length-map r.imps (λ (row : ImpRow). row.offers) in
    let covered : sum_by on_imps rows ≤ sum c.betas * whole =
    all_impressions w whole r.campaigns picks 0 (impressions r) c.betas (h.shape.betas ∙ sym long)
    (λ j below. h.covered j (omega arith)) in
    let total : sum_by least rows * whole ≤ laid_on c.alphas r.campaigns + sum c.betas * whole = omega (arith, scaled, parted, both, covered) in
    let floored : sum_by least rows ≤ (laid_on c.alphas r.campaigns + sum c.betas * whole) / whole =
    le-div (sum_by least rows) (laid_on c.alphas r.campaigns + sum c.betas * whole) whole (lit< tt) total in
    let taken_out = add-mul-div_right (laid_on c.alphas r.campaigns) (sum c.betas) {z = whole} (lit< tt) in
    omega (arith, floored, taken_out, h.bound)

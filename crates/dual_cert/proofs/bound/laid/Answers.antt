use Rattle.std.proofs.Common.{◌≡◌, ℕ, ◌*◌, ◌^◌, ◌≤◌, ◌<◌, length, get_or, ap, ◌∙◌, arith}
use Rattle.std.proofs.lemmas.List.Elements.{All-get_or}
use Rattle.bid_record.specs.declared.rows.CampaignRow.{CampaignRow}
use Rattle.std.proofs.Math.Nat.{mul-le-mul}
use Rattle.dual_cert.proofs.Lists.{numbered_more, numbered_all}
use Rattle.dual_cert.proofs.bound.laid.Goals as goal

pub loop-i-preserved : goal.loop-i-preserved
loop-i-preserved c =
    let alphas = c.args.alphas.now in
    let campaigns = c.args.campaigns.now in
    let here = c.index-campaigns-i.result in
    let f : ℕ × CampaignRow → ℕ = λ p. get_or alphas p.0 0 * p.1.budget.0 in
    let below : c.loop-i.i < length campaigns = c.loop-i-test.true in
    let more = numbered_more f campaigns c.loop-i.i here below in
    let is : here.budget.0 ≡ (get_or campaigns c.loop-i.i here).budget.0 = ap (λ (row : CampaignRow). row.budget.0) c.index-campaigns-i.is in
    let alpha : c.from.result ≡ get_or alphas c.loop-i.i 0 = c.from.ensures in
    let budget : c.from-in-loop-i.result ≡ here.budget.0 = c.from-in-loop-i.ensures in
    let most : (get_or campaigns c.loop-i.i here).budget.0 ≤ 10 ^ 15 = All-get_or (λ (row : CampaignRow). row.budget.0 ≤ 10 ^ 15) campaigns c.loop-i.i here below c.requires.budgets in
    let part : get_or alphas c.loop-i.i 0 ≤ 10 ^ 9 = c.requires.fit c.loop-i.i (omega arith) in
    let small : c.from.result * c.from-in-loop-i.result ≤ 10 ^ 9 * 10 ^ 15 =
    let first : c.from.result ≤ 10 ^ 9 = omega arith in
    let second : c.from-in-loop-i.result ≤ 10 ^ 15 = omega arith in
    mul-le-mul first second in
    let product : c.from.result * c.from-in-loop-i.result ≡ f (c.loop-i.i, get_or campaigns c.loop-i.i here) =
    ap (λ (a : ℕ). a * c.from-in-loop-i.result) alpha ∙ ap (λ (b : ℕ). get_or alphas c.loop-i.i 0 * b) (budget ∙ is) in
    record {
      value = omega (arith, more, product, c.loop-i.invariant.value);
      small = omega (arith, small, c.loop-i.invariant.small);
    }

pub returns-clause-value : goal.returns-clause-value
returns-clause-value c =
    let f : ℕ × CampaignRow → ℕ = λ p. get_or c.args.alphas.now p.0 0 * p.1.budget.0 in
    c.loop-i.invariant.value ∙ numbered_all f c.args.campaigns.now c.loop-i.i c.loop-i-test.false

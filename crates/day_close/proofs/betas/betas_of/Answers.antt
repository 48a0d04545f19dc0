use Rattle.std.proofs.Common.{◌≡◌, length, subst, rules, arith}
use Rattle.dual_cert.specs.Assignments.{Impression}
use Rattle.day_close.specs.Closing.{IsLeastBeta}
use Rattle.day_close.proofs.Made.{betas_more}
use Rattle.day_close.proofs.betas.betas_of.Goals as goal

pub loop-row-preserved : goal.loop-row-preserved
loop-row-preserved c =
    let len : length c.loop-row.betas.items ≡ c.loop-row.row-index = search rules in
    let here : IsLeastBeta c.args.alphas.now c.row-item.result.offers c.least_beta.result = subst (λ (os : Impression). IsLeastBeta c.args.alphas.now os c.least_beta.result) c.as_slice.ensures c.least_beta.ensures in
    record {
      len = search rules;
      value = betas_more c.args.alphas.now c.args.imps.now c.loop-row.row-index c.row-item.result c.loop-row.betas.items c.push.new.self.items c.least_beta.result c.loop-row-test.true c.row-item.is len c.in_ok-push.ensures.items here c.loop-row.invariant.value;
    }

pub returns-clause-value : goal.returns-clause-value
returns-clause-value c = λ imp below. c.loop-row.invariant.value imp (omega (arith, below, c.loop-row-test.false))

use Rattle.cert_check.specs.declared.verdict.Verdict.TheVariants.{Accepted}
use Rattle.std.proofs.Common.{rules, arith}
use Rattle.cert_check.specs.Verdicts.{IsVerdict}
use Rattle.dual_cert.proofs.Duality.{weak_duality}
use Rattle.cert_check.proofs.rules.check.Goals as goal

pub returns-then-cert-computed-clause-bound : goal.returns-then-cert-computed-clause-bound
returns-then-cert-computed-clause-bound c = λ picks.
    let certified : IsVerdict c.args.day.now c.args.cert.now (Accepted c.bound_by-computed.result) = search rules in
    let bound = weak_duality c.args.day.now c.args.cert.now picks certified.0 in
    omega (arith, bound, certified.1)

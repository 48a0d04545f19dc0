use Rattle.dual_cert.specs.Certificates.{Fit}
use Rattle.cert_check.proofs.rules.first_above.Given as goal

abbrev pub invariant-loop-i : goal.invariant-loop-i
invariant-loop-i l = Fit l.alphas l.i

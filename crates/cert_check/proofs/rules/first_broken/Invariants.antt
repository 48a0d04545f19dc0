use Rattle.dual_cert.specs.Assignments.{impressions_of}
use Rattle.dual_cert.specs.Certificates.{AreCovered}
use Rattle.cert_check.proofs.rules.first_broken.Given as goal

abbrev pub invariant-loop-j : goal.invariant-loop-j
invariant-loop-j l = AreCovered l.alphas l.betas (impressions_of l.imps) l.j

use Rattle.std.proofs.Common.{◌≡◌, ◌*◌, take}
use Rattle.std.specs.List.{All}
use Rattle.dual_cert.specs.Whole.{whole}
use Rattle.dual_cert.specs.Certificates.{Covers}
use Rattle.cert_check.proofs.rules.first_uncovered.Given as goal

abbrev pub invariant-loop-i : goal.invariant-loop-i
invariant-loop-i l = record {
  before : All (Covers l.alphas l.beta) (take l.i l.offers);
  product : l.covered ≡ l.beta * whole;
}

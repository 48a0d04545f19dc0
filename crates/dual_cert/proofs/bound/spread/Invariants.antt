use Rattle.std.proofs.Common.{◌≡◌, ◌*◌, ◌^◌, ◌≤◌, take}
use Rattle.std.specs.List.{sum}
use Rattle.dual_cert.proofs.bound.spread.Given as goal

abbrev pub invariant-loop-beta : goal.invariant-loop-beta
invariant-loop-beta l = record {
  value : l.total ≡ sum (take l.beta-index l.betas);
  small : l.total ≤ l.beta-index * 2 ^ 64;
}

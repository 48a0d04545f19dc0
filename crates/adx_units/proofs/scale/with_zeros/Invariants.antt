-- The amount has i zeros appended, up to the cap.
use Rattle.std.proofs.Common.{◌≡◌, ◌*◌, ◌^◌, min}
use Rattle.adx_units.specs.declared.scale.TheConstants.{CAP}
use Rattle.adx_units.proofs.scale.with_zeros.Given as goal

abbrev pub invariant-loop-i : goal.invariant-loop-i
invariant-loop-i l = l.amount ≡ min (l.value * 10 ^ l.i) CAP

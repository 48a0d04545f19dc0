-- The value is that of the digits so far, up to the cap.
use Rattle.std.proofs.Common.{◌≡◌, min, take}
use Rattle.adx_units.specs.Number.{digits_after}
use Rattle.adx_units.specs.declared.scale.TheConstants.{CAP}
use Rattle.adx_units.proofs.scale.value_after.Given as goal

abbrev pub invariant-loop-byte : goal.invariant-loop-byte
invariant-loop-byte l = l.value ≡ min (digits_after l.start (take l.byte-index l.digits)) CAP

-- The value is that of the digits so far, up to the cap.
use Rattle.std.proofs.Common.{◌≡◌, min, take}
use Rattle.adx_units.specs.Number.{digits_value}
use Rattle.adx_units.specs.declared.scale.TheConstants.{FAR}
use Rattle.adx_units.proofs.scale.far_value_of.Given as goal

abbrev pub invariant-loop-byte : goal.invariant-loop-byte
invariant-loop-byte l = l.value ≡ min (digits_value (take l.byte-index l.digits)) FAR

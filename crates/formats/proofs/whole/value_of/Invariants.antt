use Rattle.std.proofs.Common.{◌≡◌, take}
use Rattle.adx_units.specs.Number.{digits_value}
use Rattle.formats.proofs.whole.value_of.Given as goal

abbrev pub invariant-loop-byte : goal.invariant-loop-byte
invariant-loop-byte l = l.value ≡ digits_value (take l.byte-index l.digits)

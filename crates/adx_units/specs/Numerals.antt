-- The fraction of whole numbers that a number's parts represent, without its sign.
use Rattle.std.specs.Prelude.{ℕ}
use Rattle.adx_units.specs.Number.{denominator_of, numerator_of}
use Rattle.adx_units.specs.declared.numeral.Numeral.{Numeral}

-- the numerator of what the parts represent, without the sign
abbrev pub numerator_in : Numeral → ℕ
numerator_in n = numerator_of n.whole.now n.fraction.now n.lowers n.exponent.now

-- the denominator of what the parts represent
abbrev pub denominator_in : Numeral → ℕ
denominator_in n = denominator_of n.fraction.now n.lowers n.exponent.now

-- One digit more; past the limit the number only grows.
use Rattle.std.proofs.Common.{◌+◌, arith}
use Rattle.http_grammar.proofs.Digits.{value_next, value_least}
use Rattle.http_grammar.proofs.lengths.number_within.Goals as goal

pub returns-then-value-most : goal.returns-then-value-most
returns-then-value-most c =
    let i = c.loop-digit.digit-index in
    let next = value_next c.args.digits.now i c.loop-digit.value c.loop-digit-test.true c.requires c.loop-digit.invariant.0 in
    let least = value_least c.args.digits.now (i + 1) in
    omega (arith, next, least)

pub loop-digit-preserved : goal.loop-digit-preserved
loop-digit-preserved c = (
  value_next c.args.digits.now c.loop-digit.digit-index c.loop-digit.value c.loop-digit-test.true c.requires c.loop-digit.invariant.0,
  omega arith,
)

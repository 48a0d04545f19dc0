use Rattle.std.proofs.Common.{◌^◌}
use Rattle.formats.proofs.Digits.{passes}
use Rattle.formats.proofs.whole.wide_value_of.Goals as goal

pub returns-in_default : goal.returns-in_default
returns-in_default c = passes c.args.digits.now c.loop-byte.byte-index (2 ^ 128) c.loop-byte.value c.loop-byte-test.true c.loop-byte.invariant c.in_default.ensures

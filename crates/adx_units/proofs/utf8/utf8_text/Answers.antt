use Rattle.std.proofs.Common.{arith}
use Rattle.adx_units.proofs.Texts.{whole_run}
use Rattle.adx_units.proofs.utf8.utf8_text.Goals as goal

pub from_utf8_unchecked-requires : goal.from_utf8_unchecked-requires
from_utf8_unchecked-requires c = whole_run c.args.bytes.now (omega (arith, c.ascii_len.ensures.value))

use Rattle.adx_units.proofs.Bare.{bare_goes_on}
use Rattle.adx_units.proofs.escape.bare_len.Goals as goal

pub returns : goal.returns
returns c = rw (c.further_len.ensures.value, c.split_at.ensures.back, c.unescaped_len-front.ensures.value) (bare_goes_on c.args.bytes.now)

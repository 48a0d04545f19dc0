use Rattle.std.proofs.lemmas.List.Sums.{prefix_len-le-length}
use Rattle.adx_units.specs.Number.{is_digit}
use Rattle.formats.proofs.Runs.{run_passes}
use Rattle.formats.proofs.whole.digits_front.Goals as goal

pub split_at-requires : goal.split_at-requires
split_at-requires c = rw c.digits_len.ensures (prefix_len-le-length is_digit c.args.bytes.now)

pub returns-clause-digits : goal.returns-clause-digits
returns-clause-digits c = rw (c.split_at.ensures.front, c.digits_len.ensures) (run_passes is_digit c.args.bytes.now)

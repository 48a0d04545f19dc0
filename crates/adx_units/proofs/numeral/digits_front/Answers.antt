use Rattle.std.proofs.lemmas.List.Sums.{prefix_len-le-length}
use Rattle.adx_units.specs.Number.{is_digit}
use Rattle.adx_units.proofs.Scans.{front_passes, front_stops}
use Rattle.adx_units.proofs.numeral.digits_front.Goals as goal

pub returns-clause-digits : goal.returns-clause-digits
returns-clause-digits c = rw (c.split_at.ensures.front, c.digits_len-len.ensures) (front_passes is_digit c.args.text.now)

pub returns-clause-stops : goal.returns-clause-stops
returns-clause-stops c = rw (c.split_at.ensures.back, c.digits_len-len.ensures) (front_stops is_digit c.args.text.now)

pub split_at-requires : goal.split_at-requires
split_at-requires c = rw c.digits_len-len.ensures (prefix_len-le-length is_digit c.args.text.now)

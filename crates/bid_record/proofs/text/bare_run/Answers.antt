use Rattle.std.proofs.lemmas.List.Sums.{prefix_len-le-length}
use Rattle.adx_units.specs.JsonTexts.{is_bare}
use Rattle.adx_units.proofs.Bare.{run_passes}
use Rattle.bid_record.proofs.text.bare_run.Goals as goal

pub split_at-requires : goal.split_at-requires
split_at-requires c = rw c.bare_len-len.ensures (prefix_len-le-length is_bare c.args.bytes.now)

pub returns-clause-bare : goal.returns-clause-bare
returns-clause-bare c = rw (c.split_at.ensures.front, c.bare_len-len.ensures) (run_passes is_bare c.args.bytes.now)

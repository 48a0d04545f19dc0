use Rattle.std.proofs.Common.{take}
use Rattle.std.specs.List.{prefix_len}
use Rattle.adx_units.specs.Unescaped.{is_unescaped}
use Rattle.adx_units.proofs.Bare.{run_passes}
use Rattle.adx_units.proofs.Bare.{are_bare}
use Rattle.adx_json.proofs.Unescaped.{are_ascii}
use Rattle.adx_json.proofs.text.unescaped_run.Goals as goal

pub returns-clause-bare : goal.returns-clause-bare
returns-clause-bare c = rw (c.split_at.ensures.front, c.unescaped_len-len.ensures.value) (are_bare (take (prefix_len is_unescaped c.args.bytes.now) c.args.bytes.now) (run_passes is_unescaped c.args.bytes.now))

pub returns-clause-ascii : goal.returns-clause-ascii
returns-clause-ascii c = rw (c.split_at.ensures.front, c.unescaped_len-len.ensures.value) (are_ascii (take (prefix_len is_unescaped c.args.bytes.now) c.args.bytes.now) (run_passes is_unescaped c.args.bytes.now))

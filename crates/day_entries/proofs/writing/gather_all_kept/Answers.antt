use Rattle.std.proofs.Common.{◌∙◌}
use Rattle.formats.proofs.Lists.{adds_next}
use Rattle.day_entries.proofs.writing.gather_all_kept.Goals as goal

pub loop-one-preserved : goal.loop-one-preserved
loop-one-preserved c = (adds_next c.loop-one.one-index c.one-item.result c.one-item.result c.loop-one-test.true c.one-item.is c.loop-one.invariant.0 c.in_ok-gather_kept.ensures.ok, c.gather_kept.ensures.marked ∙ c.loop-one.invariant.1)

use Rattle.std.proofs.Common.{◌∙◌}
use Rattle.formats.proofs.Lists.{adds_next}
use Rattle.day_entries.proofs.writing.gather_imps.Goals as goal

pub loop-imp-preserved : goal.loop-imp-preserved
loop-imp-preserved c = (adds_next c.loop-imp.imp-index c.imp-item.result c.imp-item.result c.loop-imp-test.true c.imp-item.is c.loop-imp.invariant.0 c.in_ok-gather_name.ensures.ok, c.gather_name.ensures.marked ∙ c.loop-imp.invariant.1)

-- The second is before the first.
use Rattle.std.proofs.Common.{◌∙◌, sym}
use Rattle.command_reconcile.proofs.Least.{lesser_second}
use Rattle.command_reconcile.proofs.walk.lesser.Goals as goal

pub returns-in-Less : goal.returns-in-Less
returns-in-Less c = lesser_second c.args.ours.now c.args.theirs.now (sym c.compare.ensures ∙ c.in-Less.is)

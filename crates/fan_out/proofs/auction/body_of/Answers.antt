-- An answer without a bid.
use Rattle.std.proofs.Common.{rules}
use Rattle.adx_json.specs.View.{tree_of}
use Rattle.fan_out.proofs.auction.body_of.Goals as goal

pub returns-in-Ok-of : goal.returns-in-Ok-of
returns-in-Ok-of c = (tree_of c.in-Ok.tree, c.in-Ok-of.answer, c.in-Ok.ensures.found, c.in-Ok-of.ensures, search rules)

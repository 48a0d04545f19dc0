use Rattle.std.proofs.Common.{arith}
use Rattle.outbox.proofs.Parts.{part_is}
use Rattle.outbox.proofs.trying.part_of.Goals as goal

pub returns : goal.returns
returns c = part_is c.args.first c.args.most c.args.posts.now c.split_at.result.1.now c.split_at-2.result.0.now _ _ (omega arith) c.split_at.ensures.back (omega arith) c.split_at-2.ensures.front

use Rattle.std.proofs.Common.{}
use Rattle.http_connection.proofs.Ranges.{copied, copied_above}
use Rattle.http_connection.proofs.offsets.move_down.Goals as goal

pub returns-clause-moved : goal.returns-clause-moved
returns-clause-moved c = copied c.args.bytes.now c.copy_within.new.self c.args.from c.args.to c.args.down c.requires.order c.requires.within c.requires.down c.copy_within.ensures.after

pub returns-clause-above : goal.returns-clause-above
returns-clause-above c = λ n above. copied_above c.args.bytes.now c.copy_within.new.self c.args.from c.args.to c.args.down n c.requires.order c.requires.within c.requires.down c.copy_within.ensures.after above

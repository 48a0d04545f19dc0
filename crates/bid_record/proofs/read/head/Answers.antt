use Rattle.bid_record.proofs.ReadLines.{first_cut, first_fails}
use Rattle.bid_record.proofs.read.head.Goals as goal

pub returns-in_default : goal.returns-in_default
returns-in_default c = first_cut c.args.bytes.now c.in_default.ensures

pub returns-in-None : goal.returns-in-None
returns-in-None c = first_fails c.args.bytes.now c.in-Some.line.now c.in-Some.rest.now c.in-Some.ensures.0 c.in-Some.ensures.1 c.in-None.ensures

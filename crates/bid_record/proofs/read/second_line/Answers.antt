use Rattle.bid_record.proofs.ReadLines.{second_cut, second_fails}
use Rattle.bid_record.proofs.read.second_line.Goals as goal

pub returns-in_default : goal.returns-in_default
returns-in_default c = second_cut c.args.bytes.now c.args.rest.now c.args.format c.requires.known c.requires.whole c.in_default.ensures

pub returns-in-Err-Form : goal.returns-in-Err-Form
returns-in-Err-Form c = second_fails c.args.bytes.now c.args.rest.now c.args.format c.in-Some.line.now c.in-Some.behind.now c.requires.known c.requires.whole c.in-Some.ensures.0 c.in-Some.ensures.1 (rw c.in-Err-Form.field-0-is at c.in-Err-Form.ensures)

use Rattle.bid_record.proofs.ReadLines.{rows_begin, read_cut, read_more, read_last, read_fault}
use Rattle.bid_record.proofs.read.read_rows.Goals as goal

pub lines-init : goal.lines-init
lines-init c = rows_begin c.args.bytes.now c.args.rest.now c.args.format c.args.day c.new.result.items c.new-2.result.items c.requires.opened c.requires.whole c.new.ensures.items c.new-2.ensures.items

pub returns-in_default-clause-fault : goal.returns-in_default-clause-fault
returns-in_default-clause-fault c = read_cut c.args.bytes.now c.args.format c.lines.day c.lines.rows.campaigns.items c.lines.rows.imps.items c.lines.left.now c.lines.n c.lines.invariant c.in_default.ensures

pub returns-in-Err-clause-fault : goal.returns-in-Err-clause-fault
returns-in-Err-clause-fault c = read_fault c.args.bytes.now c.args.format c.lines.day c.lines.rows.campaigns.items c.lines.rows.imps.items c.lines.left.now c.lines.n c.in-Some.line.now c.in-Some.behind.now c.take_line.new.rows.campaigns.items c.take_line.new.rows.imps.items c.in-Err.fault c.lines.invariant c.in-Some.ensures.0 c.in-Some.ensures.1 c.in-Err.ensures

pub lines-preserved : goal.lines-preserved
lines-preserved c = read_more c.args.bytes.now c.args.format c.lines.day c.lines.rows.campaigns.items c.lines.rows.imps.items c.lines.left.now c.lines.n c.in-Some.line.now c.in-Some.behind.now c.take_line.new.rows.campaigns.items c.take_line.new.rows.imps.items c.lines.invariant c.in-Some.ensures.0 (rw c.in-Ok-false.field-0-test at c.in-Ok-false.ensures)

pub whole-requires : goal.whole-requires
whole-requires c = read_last c.args.bytes.now c.args.format c.lines.day c.lines.rows.campaigns.items c.lines.rows.imps.items c.lines.left.now c.lines.n c.in-Some.line.now c.in-Some.behind.now c.take_line.new.rows.campaigns.items c.take_line.new.rows.imps.items c.lines.invariant c.in-Some.ensures.0 (rw c.in-Ok-true.field-0-test at c.in-Ok-true.ensures)

use Rattle.dual_cert.proofs.Documents.{read_more, read_last, read_cut, read_fault}
use Rattle.dual_cert.proofs.read.read_rows.Goals as goal

pub returns-in_default-clause-fault : goal.returns-in_default-clause-fault
returns-in_default-clause-fault c = read_cut c.args.bytes.now c.lines.rows.alphas.items c.lines.rows.betas.items c.lines.left.now c.lines.n c.lines.invariant c.in_default.ensures

pub whole-requires : goal.whole-requires
whole-requires c = read_last c.args.bytes.now c.lines.rows.alphas.items c.lines.rows.betas.items c.lines.left.now c.lines.n c.in-Some.line.now c.in-Some.behind.now c.take_line.new.rows.alphas.items c.take_line.new.rows.betas.items c.in-Ok-Some.bound c.lines.invariant c.in-Some.ensures.0 (rw c.in-Ok-Some.field-0-is at c.in-Ok-Some.ensures)

pub returns-in-Err-clause-fault : goal.returns-in-Err-clause-fault
returns-in-Err-clause-fault c = read_fault c.args.bytes.now c.lines.rows.alphas.items c.lines.rows.betas.items c.lines.left.now c.lines.n c.in-Some.line.now c.in-Some.behind.now c.take_line.new.rows.alphas.items c.take_line.new.rows.betas.items c.in-Err.fault c.lines.invariant c.in-Some.ensures.0 c.in-Some.ensures.1 c.in-Err.ensures

pub lines-preserved : goal.lines-preserved
lines-preserved c = read_more c.args.bytes.now c.lines.rows.alphas.items c.lines.rows.betas.items c.lines.left.now c.lines.n c.in-Some.line.now c.in-Some.behind.now c.take_line.new.rows.alphas.items c.take_line.new.rows.betas.items c.lines.invariant c.in-Some.ensures.0 (rw c.in-Ok-None.field-0-is at c.in-Ok-None.ensures)

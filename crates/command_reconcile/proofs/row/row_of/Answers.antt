-- Bytes that are no JSON text tell no row.
use Rattle.command_reconcile.proofs.RowTrees.{fault_none, fault_some}
use Rattle.command_reconcile.proofs.row.row_of.Goals as goal

pub returns-in-Err-clause-some : goal.returns-in-Err-clause-some
returns-in-Err-clause-some c = fault_some c.args.line.now c.in-Err.fault c.none_at.result c.none_at.ensures

pub returns-in-Err-clause-none : goal.returns-in-Err-clause-none
returns-in-Err-clause-none c = fault_none c.args.line.now c.in-Err.fault c.none_at.result c.in-Err.ensures.fault c.none_at.ensures

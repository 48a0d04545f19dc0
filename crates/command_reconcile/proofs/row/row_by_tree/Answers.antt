-- The row is told just where its line is the line.
use Rattle.std.proofs.Common.{◌≤◌, Option, IfSome, subst}
use Rattle.adx_json.specs.View.{tree_of}
use Rattle.adx_units.specs.declared.price.TheConstants.{PRICE_LIMIT}
use Rattle.bidder_core.specs.declared.ledger.LedgerRow.{LedgerRow}
use Rattle.command_reconcile.specs.Rows.{TellsTree}
use Rattle.command_reconcile.proofs.RowTrees.{no_row, row_dropped, row_kept}
use Rattle.command_reconcile.proofs.row.row_by_tree.Goals as goal

pub returns-in_default-clause-none : goal.returns-in_default-clause-none
returns-in_default-clause-none c =
    no_row c.args.line.now (tree_of c.args.tree.now) c.requires (subst (TellsTree (tree_of c.args.tree.now)) c.in_default.is c.in_ok-row.ensures.tells)

pub returns-clause-some : goal.returns-clause-some
returns-clause-some c =
    row_kept c.args.line.now (tree_of c.args.tree.now) c.requires c.in-Some.row (subst (TellsTree (tree_of c.args.tree.now)) c.in-Some.is c.in_ok-row.ensures.tells) c.in_ok-same.same c.kept_if.result
    c.is_line_of.ensures.texts (subst (λ (o : Option LedgerRow). IfSome o (λ row. row.price.0 ≤ PRICE_LIMIT)) c.in-Some.is c.in_ok-row.ensures.priced) c.in_ok-same.ensures.same c.kept_if.ensures

pub returns-clause-none : goal.returns-clause-none
returns-clause-none c =
    row_dropped c.args.line.now (tree_of c.args.tree.now) c.requires c.in-Some.row (subst (TellsTree (tree_of c.args.tree.now)) c.in-Some.is c.in_ok-row.ensures.tells) c.in_ok-same.same c.kept_if.result
    c.in_ok-same.ensures.same c.kept_if.ensures

-- The row of a tree that is a row's, and none where a part is wanting.
use Rattle.adx_json.specs.View.{members_view, tree_of}
use Rattle.command_reconcile.proofs.RowTrees.{no_auction, no_bid, no_kind, no_price, parts_told}
use Rattle.command_reconcile.proofs.row.row_in.Goals as goal

pub returns-in_default-clause-tells : goal.returns-in_default-clause-tells
returns-in_default-clause-tells c = no_auction (tree_of c.args.tree.now) (members_view c.members_in-members.result.now) c.members_in-members.ensures c.in_default.ensures

pub returns-in_default-text_at-clause-tells : goal.returns-in_default-text_at-clause-tells
returns-in_default-text_at-clause-tells c = no_bid (tree_of c.args.tree.now) (members_view c.members_in-members.result.now) c.members_in-members.ensures c.in_default-text_at.ensures

pub returns-in_default-kind_at-clause-tells : goal.returns-in_default-kind_at-clause-tells
returns-in_default-kind_at-clause-tells c = no_kind (tree_of c.args.tree.now) (members_view c.members_in-members.result.now) c.members_in-members.ensures c.in_default-kind_at.ensures

pub returns-in_default-price_at-clause-tells : goal.returns-in_default-price_at-clause-tells
returns-in_default-price_at-clause-tells c = no_price (tree_of c.args.tree.now) (members_view c.members_in-members.result.now) c.members_in-members.ensures c.in_default-price_at.ensures.value

pub returns-clause-tells : goal.returns-clause-tells
returns-clause-tells c =
    parts_told (tree_of c.args.tree.now) (members_view c.members_in-members.result.now) c.members_in-members.ensures
    c.in-Some.auction.now c.in-Some-text_at.bid.now c.in-Some-kind_at.kind c.in-Some-price_at.price c.row_of_parts.result
    c.in-Some.ensures c.in-Some-text_at.ensures c.in-Some-kind_at.ensures c.in-Some-price_at.ensures.value c.row_of_parts.ensures.none c.row_of_parts.ensures.some

use Rattle.std.proofs.Common.{Some}
use Rattle.adx_json.specs.View.{tree_of}
use Rattle.deal_floor.proofs.RosterSteps.{head_off, bidders_off, campaigns_off, replies_off, limits_off, roster_on}
use Rattle.deal_floor.proofs.roster.Roster.of.Goals as goal

pub returns-in-Err : goal.returns-in-Err
returns-in-Err c m =
    let found = c.roster_members-found.ensures in
    head_off (tree_of c.args.tree.now) c.in-Err.fault (rw (found.day, found.base, found.now) at c.in-Err.ensures.gives m)

pub returns-in-Err-bidders_in : goal.returns-in-Err-bidders_in
returns-in-Err-bidders_in c m =
    let found = c.roster_members-found.ensures in
    let head = rw (found.day, found.base, found.now) at c.in-Ok.ensures.gives in
    bidders_off (tree_of c.args.tree.now) c.in-Err-bidders_in.fault head.0 (rw found.bidders at c.in-Err-bidders_in.ensures.gives m)

pub returns-in-Err-campaigns_in : goal.returns-in-Err-campaigns_in
returns-in-Err-campaigns_in c m =
    let found = c.roster_members-found.ensures in
    let head = rw (found.day, found.base, found.now) at c.in-Ok.ensures.gives in
    let bidders = rw found.bidders at c.in-Ok-bidders_in.ensures.gives in
    campaigns_off (tree_of c.args.tree.now) c.in-Ok-bidders_in.bidders _ c.as_slice.ensures bidders.1 head.0 bidders.0 c.in-Err-campaigns_in.fault
    (rw found.campaigns at c.in-Err-campaigns_in.ensures.gives m)

pub returns-in-Err-reply_trees_of : goal.returns-in-Err-reply_trees_of
returns-in-Err-reply_trees_of c m =
    let found = c.roster_members-found.ensures in
    let head = rw (found.day, found.base, found.now) at c.in-Ok.ensures.gives in
    let bidders = rw found.bidders at c.in-Ok-bidders_in.ensures.gives in
    let campaigns = rw found.campaigns at c.in-Ok-campaigns_in.ensures.gives in
    replies_off (tree_of c.args.tree.now) c.in-Ok-bidders_in.bidders _ c.as_slice.ensures bidders.1 head.0 bidders.0 c.in-Ok-campaigns_in.campaigns campaigns.1 campaigns.0
    c.in-Err-reply_trees_of.fault (rw (found.replies, c.len.ensures) at c.in-Err-reply_trees_of.ensures.gives m)

pub returns-in-Err-limits_in : goal.returns-in-Err-limits_in
returns-in-Err-limits_in c m =
    let found = c.roster_members-found.ensures in
    let head = rw (found.day, found.base, found.now) at c.in-Ok.ensures.gives in
    let bidders = rw found.bidders at c.in-Ok-bidders_in.ensures.gives in
    let campaigns = rw found.campaigns at c.in-Ok-campaigns_in.ensures.gives in
    let replies = rw (found.replies, c.len.ensures) at c.in-Ok-reply_trees_of.ensures.gives in
    limits_off (tree_of c.args.tree.now) c.in-Ok-bidders_in.bidders _ c.as_slice.ensures bidders.1 head.0 bidders.0 c.in-Ok-campaigns_in.campaigns campaigns.1 campaigns.0
    _ replies.1 replies.0 (Some c.in-Err-limits_in.fault) (rw found.limits at c.in-Err-limits_in.ensures m)

pub returns : goal.returns
returns c =
    let found = c.roster_members-found.ensures in
    let head = rw (found.day, found.base, found.now) at c.in-Ok.ensures.gives in
    let bidders = rw found.bidders at c.in-Ok-bidders_in.ensures.gives in
    let campaigns = rw found.campaigns at c.in-Ok-campaigns_in.ensures.gives in
    let replies = rw (found.replies, c.len.ensures) at c.in-Ok-reply_trees_of.ensures.gives in
    let limits = rw found.limits at c.in-Ok-limits_in.ensures in
    roster_on (tree_of c.args.tree.now) c.in-Ok-bidders_in.bidders _ c.as_slice.ensures bidders.1 head.0 bidders.0 c.in-Ok-campaigns_in.campaigns campaigns.1 campaigns.0
    _ replies.1 replies.0 _ _ _ _ limits.0 limits.1 head.1 (rw (found.day, found.base, found.campaigns) at c.in_ok-roster.ensures)

use Rattle.std.proofs.Common.{◌≡◌, true, false, sym, ◌∙◌}
use Rattle.deal_floor.proofs.Sought.{found_some}
use Rattle.deal_floor.proofs.campaigns.gap_for.Goals as goal

true_false : true ≡ false → ⊥
true_false h = cc

pub unreachable-requires : goal.unreachable-requires
unreachable-requires c =
    let found = rw (c.as_str.ensures.value, c.as_str-2.ensures.value) at c.in-Ok.ensures.found in
    true_false (sym (found_some c.args.campaigns.now c.args.order.now c.requires.sorted c.args.campaign.now.seat c.args.campaign.now.cid _ found) ∙ c.requires.new)

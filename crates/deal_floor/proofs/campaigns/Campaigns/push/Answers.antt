use Rattle.std.proofs.Common.{◌∙◌}
use Rattle.deal_floor.proofs.Sought.{order_more}
use Rattle.deal_floor.proofs.campaigns.Campaigns.push.Goals as goal

pub invariant_of-self-in_default : goal.invariant_of-self-in_default
invariant_of-self-in_default c =
    order_more c.self.inside.campaigns.items _ _ c.self.inside.order.items _ _ c.args.campaign _ _ c.self.invariant c.deref.ensures.value c.deref-2.ensures.value c.gap_for-at.ensures c.in_ok-push.ensures.items (c.len-place.ensures ∙ c.self.inside.campaigns.ok.0) c.in_default.ensures.items

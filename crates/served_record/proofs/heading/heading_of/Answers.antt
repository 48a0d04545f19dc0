-- The day and the campaigns of the roster.
use Rattle.std.proofs.Common.{List, ap, subst, sym, ◌∙◌}
use Rattle.std.specs.List.{All}
use Rattle.deal_floor.specs.declared.campaign.Campaign.{Campaign}
use Rattle.bid_record.specs.Records.{IsCampaign}
use Rattle.served_record.specs.Days.{IsHistoryOf, campaign_rows}
use Rattle.served_record.proofs.Headings.{roster_heading}
use Rattle.served_record.proofs.heading.heading_of.Goals as goal

pub campaign_rows-requires : goal.campaign_rows-requires
campaign_rows-requires c = subst (λ (cs : List Campaign). IsHistoryOf cs c.args.entries.now) (sym c.as_slice.ensures) c.requires

pub invariant_of-result : goal.invariant_of-result
invariant_of-result c = record {
  sound = roster_heading c.args.roster.now c.args.entries.now c.in_ok-day.day c.from.result c.in_ok-day.ensures
      (c.from.ensures ∙ (c.in_ok-rows.ensures.rows ∙ ap (λ (cs : List Campaign). campaign_rows cs c.args.entries.now) c.as_slice.ensures))
      (subst (All (IsCampaign 2)) (sym c.from.ensures) c.in_ok-rows.ensures.sound);
}

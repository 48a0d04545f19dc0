use Rattle.std.proofs.Common.{◌≡◌, ◌+◌, ◌∷◌, [], ◌++◌, List, ap, arith, subst, sym, take, ◌∙◌}
use Rattle.std.specs.List.{All}
use Rattle.std.proofs.lemmas.List.{take_more}
use Rattle.day_rules.specs.Terms.{terms_of}
use Rattle.day_rules.specs.declared.entry.Entry.{Entry}
use Rattle.bid_record.specs.Records.{IsCampaign}
use Rattle.bid_record.specs.declared.rows.CampaignRow.{CampaignRow}
use Rattle.served_record.specs.Days.{budgets_of, campaign_rows}
use Rattle.served_record.specs.Steps.{MayCome}
use Rattle.served_record.proofs.Awards.{all_taken, next_follows}
use Rattle.served_record.proofs.Campaigns.{after_sound, may_come, rows_more, rows_opened}
use Rattle.served_record.proofs.heading.campaign_rows.Goals as goal

pub follow-requires : goal.follow-requires
follow-requires c =
    let next = next_follows (terms_of (budgets_of c.args.campaigns.now) c.requires.limits) c.args.entries.now c.loop-entry.entry-index c.entry-item.result c.requires.is_day c.loop-entry-test.true c.entry-item.is in
    subst (λ (rows : List CampaignRow). MayCome rows c.entry-item.result) (sym c.loop-entry.invariant.rows)
    (may_come c.args.campaigns.now c.requires.limits (take c.loop-entry.entry-index c.args.entries.now) c.entry-item.result next.follows)

pub loop-entry-init : goal.loop-entry-init
loop-entry-init c = record {
  rows = c.in_ok-rows.ensures.rows ∙ sym (rows_opened c.args.campaigns.now);
  sound = c.in_ok-rows.ensures.sound;
}

pub loop-entry-preserved : goal.loop-entry-preserved
loop-entry-preserved c =
    let campaigns = c.args.campaigns.now in
    let entries = c.args.entries.now in
    let i = c.loop-entry.entry-index in
    let e = c.entry-item.result in
    let more : take (i + 1) entries ≡ take i entries ++ e ∷ [] =
    take_more entries i e c.loop-entry-test.true ∙ ap (λ (x : Entry). take i entries ++ x ∷ []) (sym c.entry-item.is) in
    let next = next_follows (terms_of (budgets_of campaigns) c.requires.limits) entries i e c.requires.is_day c.loop-entry-test.true c.entry-item.is in
    let may : MayCome c.loop-entry.rows.items e =
    subst (λ (rows : List CampaignRow). MayCome rows e) (sym c.loop-entry.invariant.rows) (may_come campaigns c.requires.limits (take i entries) e next.follows) in
    record {
      rows = rows_more campaigns entries i e c.loop-entry.rows.items c.follow.new.rows.items more c.loop-entry.invariant.rows c.follow.ensures;
      sound = subst (All (IsCampaign 2)) (sym c.follow.ensures) (after_sound c.loop-entry.rows.items e may c.loop-entry.invariant.sound);
    }

pub returns-clause-rows : goal.returns-clause-rows
returns-clause-rows c =
    c.loop-entry.invariant.rows ∙ ap (campaign_rows c.args.campaigns.now) (all_taken c.args.entries.now c.loop-entry.entry-index (omega (arith, c.loop-entry-test.false)))

use Rattle.std.proofs.Common.{map, length, codes, is_ok, is_some, not, Some, refl, rules, arith}
use Rattle.std.proofs.lemmas.Grind.{common_steps}
use Rattle.adx_json.specs.Named.{member_in}
use Rattle.adx_json.specs.View.{tree_of}
use Rattle.adx_json.proofs.Listing.{passes}
use Rattle.rtb_request.specs.Amounts.{is_id}
use Rattle.deal_floor.specs.Forms.{budget_in, place_in}
use Rattle.deal_floor.specs.Pairs.{is_pair_among, pair_of}
use Rattle.deal_floor.specs.Rosters.{pair_in}
use Rattle.deal_floor.specs.declared.fault.Field.TheVariants as fields
use Rattle.deal_floor.specs.declared.fault.RosterFault.TheVariants.{BadField, Repeated}
use Rattle.deal_floor.proofs.BidderSteps.{names}
use Rattle.deal_floor.proofs.campaign_reader.campaign_of.Goals as goal

pub returns-clause-gives : goal.returns-clause-gives
returns-clause-gives c =
    let t = tree_of c.args.tree.now in
    let ns = names c.args.bidders.now in
    let ps = map pair_of c.args.others.now in (
      passes (is_some (place_in ns (member_in (codes "bidder") t))) (BadField fields.CampaignBidder) (first_of (search rules, grind (arith, common_steps)))
          (passes (is_id (member_in (codes "seat") t)) (BadField fields.CampaignSeat) (first_of (search rules, grind (arith, common_steps)))
          (passes (is_id (member_in (codes "cid") t)) (BadField fields.CampaignCid) (first_of (search rules, grind (arith, common_steps)))
          (passes (is_ok (budget_in (member_in (codes "budget") t))) (BadField fields.CampaignBudget) (first_of (search rules, grind (arith, common_steps)))
          (passes (not (is_pair_among ps (pair_in (Some t)))) (Repeated (length ps)) (first_of (search rules, grind (arith, common_steps))) refl)))),
      (
        first_of (search rules, grind (arith, common_steps)),
        (
          first_of (search rules, grind (arith, common_steps)),
          (first_of (search rules, grind (arith, common_steps)), (first_of (search rules, grind (arith, common_steps)), (tt, tt))),
        ),
      ),
    )

pub returns-then-has_pair-clause-gives : goal.returns-then-has_pair-clause-gives
returns-then-has_pair-clause-gives c =
    let t = tree_of c.args.tree.now in
    let ns = names c.args.bidders.now in
    let ps = map pair_of c.args.others.now in
    λ _.
    passes (is_some (place_in ns (member_in (codes "bidder") t))) (BadField fields.CampaignBidder) (first_of (search rules, grind (arith, common_steps)))
    (passes (is_id (member_in (codes "seat") t)) (BadField fields.CampaignSeat) (first_of (search rules, grind (arith, common_steps)))
    (passes (is_id (member_in (codes "cid") t)) (BadField fields.CampaignCid) (first_of (search rules, grind (arith, common_steps)))
    (passes (is_ok (budget_in (member_in (codes "budget") t))) (BadField fields.CampaignBudget) (first_of (search rules, grind (arith, common_steps)))
    (first_of (search rules, grind (arith, common_steps))))))

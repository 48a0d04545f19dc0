-- Campaigns that are neither none nor too many have the fault of one of them.
use Rattle.std.proofs.Common.{◌≡◌, [], map, length, nat_le, Some, subst, rules, arith}
use Rattle.std.proofs.lemmas.Grind.{common_steps}
use Rattle.adx_json.specs.Rows.{first_among}
use Rattle.adx_json.specs.Values.{items_in}
use Rattle.adx_json.proofs.Listing.{passes}
use Rattle.deal_floor.specs.Reading.{given, names_of}
use Rattle.deal_floor.specs.Rosters.{campaign_rows, pair_in}
use Rattle.deal_floor.specs.declared.campaign.TheConstants.{MOST_CAMPAIGNS}
use Rattle.deal_floor.specs.declared.fault.Field.TheVariants as fields
use Rattle.deal_floor.specs.declared.fault.RosterFault.TheVariants.{BadField, TooMany}
use Rattle.deal_floor.proofs.roster_reader.campaigns_in.Goals as goal

pub returns-in-Err-clause-gives : goal.returns-in-Err-clause-gives
returns-in-Err-clause-gives c m =
    let ts = items_in (given c.args.value) in
    passes (nat_le 1 (length ts)) (BadField fields.Campaigns) (first_of (search rules, grind (arith, common_steps)))
    (passes (nat_le (length ts) MOST_CAMPAIGNS) TooMany (first_of (search rules, grind (arith, common_steps)))
    (subst (λ us. first_among (λ before. campaign_rows (names_of c.args.bidders.now) (map (λ t. pair_in (Some t)) before)) [] us ≡ Some c.in-Err.fault)
    c.items_in-trees.ensures (c.in-Err.ensures.gives m)))

-- Limits that pass each test, one by one.
use Rattle.std.proofs.Common.{codes, refl, rules, arith}
use Rattle.std.proofs.lemmas.Grind.{common_steps}
use Rattle.adx_json.specs.FoundMembers.{member_within}
use Rattle.adx_json.specs.Values.{is_object_if_given}
use Rattle.adx_json.proofs.Listing.{passes}
use Rattle.deal_floor.specs.Forms.{is_whole_if_given}
use Rattle.deal_floor.specs.Reading.{given}
use Rattle.deal_floor.specs.declared.fault.Field.TheVariants as fields
use Rattle.deal_floor.specs.declared.fault.RosterFault.TheVariants.{BadField}
use Rattle.deal_floor.specs.declared.limits.TheConstants.{MOST_AUCTIONS, MOST_BIDS, MOST_TEXT}
use Rattle.deal_floor.proofs.roster_reader.limits_in.Goals as goal

pub returns : goal.returns
returns c =
    let v = given c.args.value in (
      passes (is_object_if_given v) (BadField fields.Limits) (first_of (search rules, grind (arith, common_steps)))
          (passes (is_whole_if_given MOST_AUCTIONS (member_within (codes "auctions") v)) (BadField fields.LimitsAuctions) (first_of (search rules, grind (arith, common_steps)))
          (passes (is_whole_if_given MOST_BIDS (member_within (codes "bids") v)) (BadField fields.LimitsBids) (first_of (search rules, grind (arith, common_steps)))
          (passes (is_whole_if_given MOST_TEXT (member_within (codes "text") v)) (BadField fields.LimitsText) (first_of (search rules, grind (arith, common_steps))) refl))),
      (first_of (search rules, grind (arith, common_steps)), first_of (search rules, grind (arith, common_steps)), first_of (search rules, grind (arith, common_steps))),
    )
